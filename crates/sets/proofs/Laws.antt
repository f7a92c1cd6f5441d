-- The laws of sets and the words that hold them, for any width w.
-- Assumes nothing.
use Prim.Native.Nat.{ℕ, zero, suc, ◌+◌, ◌-◌, ◌*◌, ◌/◌, ◌%◌, ◌^◌, ◌≤◌, ◌<◌, min, max}
use mathlib.Core.Bool.{Bool, true, false, not, ◌&&◌, ◌||◌}
use mathlib.Core.Path.{◌≡◌, refl, sym, ap, ap₂, ◌∙◌}
use native.Mathlib.Nat.{le_of_suc-le-suc, not-suc-le-zero, pow-succ', div-one, add-zero, zero-add, div-eq_of_lt, lt_of_lt_of_le, suc-add, mul_comm, mul_assoc, mul-zero}
use native.Mathlib.Decide.{ℕ_discrete, dec_lt}
use native.Mathlib.Numerals.{add-one}
use native.Mathlib.Omega.{arith}
use lib.Dec.{eqb, ltb, eqb-suc-suc, eqb-zero-suc, eqb-suc-zero}
use lib.Bits.{bit_and, bit_or, and_step, or_step}
use lib.ListN.{get_or}
use lib.Pow.{pow_mono, shr-shr, high, low, shl_exact}
use borrow.Author.Tests.{eq-eqb, eqb-true, lt-ltb, le-ltb, ne_eqb}
use Rattle.std.specs.Int.{w64, to_le_bytes}
use Rattle.std.proofs.Math.Bool.{or-false}
use Rattle.std.proofs.lemmas.Bool.{not_from_false, not-true}
use Rattle.model.specs.Sets.{Set, empty_set, singleton, bit, from, number, all_below}
use Rattle.model.proofs.Tests.{not_true, not_both, below_at, below_make}
use Rattle.model.proofs.Masks.{bit_lt, number_below, number_digit, number_cong}
use Rattle.sets.specs.Sets.{members, union, common, minus, insert, remove, upto, byte_of, within, apart}

-- ---- one digit
bit_max : (a b : Bool) → bit (a || b) ≡ max (bit a) (bit b)
bit_max true true = refl
bit_max true false = refl
bit_max false true = refl
bit_max false false = refl

bit_min : (a b : Bool) → bit (a && b) ≡ min (bit a) (bit b)
bit_min true true = refl
bit_min true false = refl
bit_min false true = refl
bit_min false false = refl

bit_half : (b : Bool) (n : ℕ) → (bit b + 2 * n) / 2 ≡ n
bit_half b n = omega (arith, bit_lt b)

bit_odd : (b : Bool) (n : ℕ) → (bit b + 2 * n) % 2 ≡ bit b
bit_odd b n = omega (arith, bit_lt b)

-- ---- members, digit by digit
pub members_zero : (m : ℕ) → members m 0 ≡ eqb (m % 2) 1
unfolding members
members_zero m = rw div-one

pub members_suc : (m j : ℕ) → members m (suc j) ≡ members (m / 2) j
unfolding members
members_suc m j = ap (λ (x : ℕ). eqb (x % 2) 1) (ap (λ (p : ℕ). m / 2 ^ p) (omega arith) ∙ sym (shr-shr m 1 j))

bit_eqb : (b : Bool) → eqb (bit b) 1 ≡ b
bit_eqb true = refl
bit_eqb false = refl

-- ---- the members of a number are the set that it was made of
pub members_number : (w : ℕ) (f : Set) (j : ℕ) → j < w → members (number w f) j ≡ f j
unfolding members
members_number w f j h = ap (λ (x : ℕ). eqb x 1) (number_digit w f j h) ∙ bit_eqb (f j)

-- ---- the operations, a digit at a time
or_digits : (a b : Bool) (m n : ℕ) → bit_or (bit a + 2 * m) (bit b + 2 * n) ≡ bit (a || b) + 2 * bit_or m n
or_digits a b m n =
    or_step (bit a + 2 * m) (bit b + 2 * n)
    ∙ rw (bit_half a m, bit_half b n, bit_odd a m, bit_odd b n, ← bit_max a b) (omega arith)

and_digits : (a b : Bool) (m n : ℕ) → bit_and (bit a + 2 * m) (bit b + 2 * n) ≡ bit (a && b) + 2 * bit_and m n
and_digits a b m n =
    and_step (bit a + 2 * m) (bit b + 2 * n)
    ∙ rw (bit_half a m, bit_half b n, bit_odd a m, bit_odd b n, ← bit_min a b) (omega arith)

bit_not : (b : Bool) → bit (not b) + bit b ≡ 1
bit_not true = refl
bit_not false = refl

pub number_or : (w : ℕ) (f g : Set) → number w (union f g) ≡ bit_or (number w f) (number w g)
unfolding number
number_or zero f g = refl
number_or (suc w) f g =
    rw (number_or w (λ j. f (suc j)) (λ j. g (suc j))) (sym (or_digits (f 0) (g 0) (number w (λ j. f (suc j))) (number w (λ j. g (suc j)))))

pub number_and : (w : ℕ) (f g : Set) → number w (common f g) ≡ bit_and (number w f) (number w g)
unfolding number
number_and zero f g = refl
number_and (suc w) f g =
    rw (number_and w (λ j. f (suc j)) (λ j. g (suc j))) (sym (and_digits (f 0) (g 0) (number w (λ j. f (suc j))) (number w (λ j. g (suc j)))))

-- the complement within the width
pub number_not : (w : ℕ) (f : Set) → number w (λ j. not (f j)) ≡ 2 ^ w - 1 - number w f
unfolding number
number_not zero f = refl
number_not (suc w) f =
    omega (arith, number_not w (λ j. f (suc j)), number_below w (λ j. f (suc j)), bit_not (f 0), pow-succ' 2 w)

pub number_empty : (w : ℕ) → number w empty_set ≡ 0
unfolding number
number_empty zero = refl
number_empty (suc w) = omega (arith, number_empty w)

pub number_singleton : (w c : ℕ) → c < w → number w (singleton c) ≡ 2 ^ c
unfolding number
number_singleton zero c h = absurd (not-suc-le-zero h)
number_singleton (suc w) zero h = omega (arith, number_cong w (λ j. eqb (suc j) 0) empty_set (λ j l. eqb-suc-zero j), number_empty w)
number_singleton (suc w) (suc c) h =
    rw (eqb-zero-suc c) (omega (arith, number_cong w (λ j. eqb (suc j) (suc c)) (singleton c) (λ j l. eqb-suc-suc j c), number_singleton w c (le_of_suc-le-suc h), pow-succ' 2 c))

-- ---- a number below 2 ^ w is the one that its members make
bit_mod : (m : ℕ) → bit (eqb (m % 2) 1) ≡ m % 2
bit_mod m = go (m % 2) (omega arith)
  where
    go : (d : ℕ) → d < 2 → bit (eqb d 1) ≡ d
    go zero h = refl
    go (suc zero) h = refl
    go (suc (suc d)) h = absurd (omega arith)

pub number_members : (w m : ℕ) → m < 2 ^ w → number w (members m) ≡ m
unfolding number
number_members zero m h = omega arith
number_members (suc w) m h =
    rw (members_zero m, bit_mod m) (omega (arith, number_cong w (λ j. members m (suc j)) (members (m / 2)) (λ j l. members_suc m j), number_members w (m / 2) (omega (arith, pow-succ' 2 w))))

-- bits beyond the width are 0
pub members_above : (w m j : ℕ) → m < 2 ^ w → w ≤ j → members m j ≡ false
unfolding members
members_above w m j h l = ap (λ (x : ℕ). eqb (x % 2) 1) (div-eq_of_lt (lt_of_lt_of_le h (pow_mono l)))

-- equal digits, equal numbers
pub same_members : (a b : ℕ) → ((j : ℕ) → members a j ≡ members b j) → a ≡ b
same_members a b h =
    let w : ℕ = a + b in
    sym (number_members w a (omega (arith, below_pow w))) ∙ number_cong w (members a) (members b) (λ j l. h j) ∙ number_members w b (omega (arith, below_pow w))
  where
    below_pow : (n : ℕ) → n < 2 ^ n
    below_pow zero = omega arith
    below_pow (suc n) = omega (arith, below_pow n, pow-succ' 2 n)

-- ---- what a caller knows as `number w f` it may use in place of `members`
pub pointwise : (w : ℕ) (op : Bool → Bool → Bool) (f g : Set)
    → number w (λ j. op (members (number w f) j) (members (number w g) j)) ≡ number w (λ j. op (f j) (g j))
pointwise w op f g = number_cong w _ _ (λ j l. ap₂ op (members_number w f j l) (members_number w g j l))

-- ---- a number in parts
pub number_split : (k w : ℕ) (f : Set) → number (k + w) f ≡ number k f + 2 ^ k * number w (from k f)
unfolding number
number_split zero w f =
    rw (zero-add w) (omega (arith, number_cong w f (from 0 f) (λ j l. ap f (omega arith))))
number_split (suc k) w f = rw (suc-add k w) (omega (arith, number_split k w (λ j. f (suc j)), sure))
  where
    sure : 2 ^ suc k * number w (from (suc k) f) ≡ 2 * (2 ^ k * number w (from k (λ j. f (suc j))))
    sure =
        ap₂ (λ (p n : ℕ). p * n) (pow-succ' 2 k) (number_cong w (from (suc k) f) (from k (λ j. f (suc j))) (λ j l. ap f (omega arith)))
        ∙ mul_assoc 2 (2 ^ k) (number w (from k (λ j. f (suc j))))

-- k digits from s on, as a shift and a remainder take them out
pub number_part : (s k r : ℕ) (f : Set) → number (s + (k + r)) f / 2 ^ s % 2 ^ k ≡ number k (from s f)
number_part s k r f =
    ap (λ (x : ℕ). x / 2 ^ s % 2 ^ k) (number_split s (k + r) f ∙ omega (arith, mul_comm (2 ^ s) (number (k + r) (from s f))))
    ∙ ap (λ (x : ℕ). x % 2 ^ k) (high (number (k + r) (from s f)) s (number_below s f))
    ∙ ap (λ (x : ℕ). x % 2 ^ k) (number_split k r (from s f) ∙ omega (arith, mul_comm (2 ^ k) (number r (from k (from s f)))))
    ∙ low (number r (from k (from s f))) k (number_below k (from s f))

-- byte i of a set held in w digits
pub byte_number : (w i : ℕ) (f : Set) → 8 * i + 8 ≤ w → number w f / 2 ^ (8 * i) % 256 ≡ byte_of i f
byte_number w i f h =
    ap (λ (v : ℕ). number v f / 2 ^ (8 * i) % 256) (omega arith) ∙ number_part (8 * i) 8 (w - (8 * i + 8)) f

-- bytes and words: byte p of word q, of words of 8 n digits, is byte n q + p of the set
pub byte_word : (n q p : ℕ) (f : Set) → byte_of (n * q + p) f ≡ byte_of p (from (8 * n * q) f)
byte_word n q p f = number_cong 8 _ _ (λ j l. ap f (sure j))
  where
    sure : (j : ℕ) → 8 * (n * q + p) + j ≡ 8 * n * q + (8 * p + j)
    sure j = omega (arith, mul_assoc 8 n q)

-- ---- tests over a range
pub same_bool : (a b : Bool) → (a ≡ true → b ≡ true) → (b ≡ true → a ≡ true) → a ≡ b
same_bool true true f g = refl
same_bool true false f g = sym (f refl)
same_bool false true f g = g refl
same_bool false false f g = refl

pub below_none : (p : ℕ → Bool) → all_below 0 p ≡ true
unfolding all_below
below_none p = refl

pub below_step : (n : ℕ) (p : ℕ → Bool) → all_below (n + 1) p ≡ (all_below n p && p n)
unfolding all_below
below_step n p = ap (λ (k : ℕ). all_below k p) (add-one n)

pub below_fails : (n : ℕ) (p : ℕ → Bool) (j : ℕ) → j < n → p j ≡ false → all_below n p ≡ false
below_fails n p j h e = not_true (all_below n p) (λ t. not_both (p j) (below_at n p t j h) e)

pub below_cong : (n : ℕ) (p q : ℕ → Bool) → ((j : ℕ) → j < n → p j ≡ q j) → all_below n p ≡ all_below n q
unfolding all_below
below_cong zero p q h = refl
below_cong (suc n) p q h = ap₂ (λ (x y : Bool). x && y) (below_cong n p q (λ j l. h j (omega arith))) (h n (omega arith))

-- ---- the tests on words
if_and : (a b : Bool) → (a && b) ≡ a → (not a || b) ≡ true
if_and true b e = e
if_and false b e = refl

and_if : (a b : Bool) → (not a || b) ≡ true → (a && b) ≡ a
and_if true b e = e
and_if false b e = refl

pub test_within : (w : ℕ) (f g : Set) → eqb (bit_and (number w f) (number w g)) (number w f) ≡ within w f g
test_within w f g =
    same_bool _ _
    (λ e. below_make w _ (λ j l. if_and (f j) (g j)
    (sym (members_number w (common f g) j l) ∙ ap (λ (m : ℕ). members m j) (number_and w f g ∙ eqb-true _ _ e) ∙ members_number w f j l)))
    (λ e. eq-eqb _ _ (sym (number_and w f g) ∙ number_cong w (common f g) f (λ j l. and_if (f j) (g j) (below_at w _ e j l))))

-- a word is 0 exactly where its set has no member
test_none : (w : ℕ) (f : Set) → eqb (number w f) 0 ≡ all_below w (λ j. not (f j))
test_none w f =
    same_bool _ _
    (λ e. below_make w _ (λ j l. not_from_false (f j)
    (sym (members_number w f j l) ∙ ap (λ (m : ℕ). members m j) (eqb-true _ _ e ∙ sym (number_empty w)) ∙ members_number w empty_set j l)))
    (λ e. eq-eqb _ _ (number_cong w f empty_set (λ j l. not-true (f j) (below_at w _ e j l)) ∙ number_empty w))

pub test_apart : (w : ℕ) (f g : Set) → eqb (bit_and (number w f) (number w g)) 0 ≡ apart w f g
test_apart w f g = ap (λ (x : ℕ). eqb x 0) (sym (number_and w f g)) ∙ test_none w (common f g)

-- ---- the operations on words of w digits, by what the words hold
pub single_word : (w c : ℕ) → c < w → (1 * 2 ^ c) % 2 ^ w ≡ number w (singleton c)
single_word w c h = shl_exact 1 c w (omega arith) (omega arith) ∙ omega (arith, number_singleton w c h)

-- a and b hold f and g: what the machine's operations on them hold
module _ (w : ℕ) {a b : ℕ} (f g : Set) (ha : a ≡ number w f) (hb : b ≡ number w g) where
  pub or_holds : bit_or a b ≡ number w (union f g)
  or_holds = ap₂ bit_or ha hb ∙ sym (number_or w f g)

  pub and_holds : bit_and a b ≡ number w (common f g)
  and_holds = ap₂ bit_and ha hb ∙ sym (number_and w f g)

  pub minus_holds : bit_and a (2 ^ w - 1 - b) ≡ number w (minus f g)
  minus_holds =
      ap₂ (λ (x y : ℕ). bit_and x (2 ^ w - 1 - y)) ha hb ∙ ap (bit_and (number w f)) (sym (number_not w g))
      ∙ sym (number_and w f (λ j. not (g j)))

  pub within_holds : eqb (bit_and a b) a ≡ within w f g
  within_holds = ap₂ (λ (x y : ℕ). eqb (bit_and x y) x) ha hb ∙ test_within w f g

  pub apart_holds : eqb (bit_and a b) 0 ≡ apart w f g
  apart_holds = ap₂ (λ (x y : ℕ). eqb (bit_and x y) 0) ha hb ∙ test_apart w f g

-- 0 holds the empty set
pub zero_holds : (w : ℕ) → 0 ≡ number w empty_set
zero_holds w = sym (number_empty w)

-- a word holds its own members
pub own : (w a : ℕ) → a < 2 ^ w → a ≡ number w (members a)
own w a h = sym (number_members w a h)

pub byte_of_word : (w m i : ℕ) → m < 2 ^ w → 8 * i + 8 ≤ w → m / 2 ^ (8 * i) % 256 ≡ byte_of i (members m)
byte_of_word w m i h l = ap (λ (x : ℕ). x / 2 ^ (8 * i) % 256) (own w m h) ∙ byte_number w i (members m) l

pub bytes_of_word : (m : ℕ) → m < 2 ^ 64 → (i : ℕ) → i < 8 → get_or (to_le_bytes w64 m) i 0 ≡ byte_of i (members m)
bytes_of_word m h zero l = ap (λ (x : ℕ). x % 256) (sym (div-one m)) ∙ byte_of_word 64 m 0 h (omega arith)
bytes_of_word m h (suc zero) l = byte_of_word 64 m 1 h (omega arith)
bytes_of_word m h (suc (suc zero)) l = byte_of_word 64 m 2 h (omega arith)
bytes_of_word m h (suc (suc (suc zero))) l = byte_of_word 64 m 3 h (omega arith)
bytes_of_word m h (suc (suc (suc (suc zero)))) l = byte_of_word 64 m 4 h (omega arith)
bytes_of_word m h (suc (suc (suc (suc (suc zero))))) l = byte_of_word 64 m 5 h (omega arith)
bytes_of_word m h (suc (suc (suc (suc (suc (suc zero)))))) l = byte_of_word 64 m 6 h (omega arith)
bytes_of_word m h (suc (suc (suc (suc (suc (suc (suc zero))))))) l = byte_of_word 64 m 7 h (omega arith)
bytes_of_word m h (suc (suc (suc (suc (suc (suc (suc (suc i)))))))) l = absurd (omega arith)

-- ---- for callers of the functions: what a function says of its words' members, said of the sets that the words are known to hold
module _ (w : ℕ) {a b : ℕ} (f g : Set) (ha : a ≡ number w f) (hb : b ≡ number w g) where
  pub by_both : (op : Bool → Bool → Bool) {r : ℕ} → r ≡ number w (λ j. op (members a j) (members b j)) → r ≡ number w (λ j. op (f j) (g j))
  by_both op e =
      e ∙ ap₂ (λ (x y : ℕ). number w (λ j. op (members x j) (members y j))) ha hb ∙ pointwise w op f g

  pub test_by_both : (op : Bool → Bool → Bool) {t : Bool} → t ≡ all_below w (λ j. op (members a j) (members b j)) → t ≡ all_below w (λ j. op (f j) (g j))
  test_by_both op e =
      e ∙ ap₂ (λ (x y : ℕ). all_below w (λ j. op (members x j) (members y j))) ha hb
      ∙ below_cong w _ _ (λ j l. ap₂ op (members_number w f j l) (members_number w g j l))

  -- for union, minus, within and apart
  pub joined_holds : {r : ℕ} → r ≡ number w (union (members a) (members b)) → r ≡ number w (union f g)
  joined_holds e = by_both (λ x y. x || y) e

  pub difference_holds : {r : ℕ} → r ≡ number w (minus (members a) (members b)) → r ≡ number w (minus f g)
  difference_holds e = by_both (λ x y. x && not y) e

  pub subset_holds : {t : Bool} → t ≡ within w (members a) (members b) → t ≡ within w f g
  subset_holds e = test_by_both (λ x y. not x || y) e

  pub disjoint_holds : {t : Bool} → t ≡ apart w (members a) (members b) → t ≡ apart w f g
  disjoint_holds e = test_by_both (λ x y. not (x && y)) e

module _ (w : ℕ) {a : ℕ} (f : Set) (ha : a ≡ number w f) where
  pub inserted : (c : ℕ) {r : ℕ} → r ≡ number w (insert c (members a)) → r ≡ number w (insert c f)
  inserted c e =
      e ∙ ap (λ (x : ℕ). number w (insert c (members x))) ha
      ∙ number_cong w _ _ (λ j l. ap (λ (b : Bool). b || eqb j c) (members_number w f j l))

  pub removed : (c : ℕ) {r : ℕ} → r ≡ number w (remove c (members a)) → r ≡ number w (remove c f)
  removed c e =
      e ∙ ap (λ (x : ℕ). number w (remove c (members x))) ha
      ∙ number_cong w _ _ (λ j l. ap (λ (b : Bool). b && not (eqb j c)) (members_number w f j l))

  pub contained : (c : ℕ) → c < w → members a c ≡ f c
  contained c h = ap (λ (x : ℕ). members x c) ha ∙ members_number w f c h

  pub none_holds : eqb a 0 ≡ all_below w (λ j. not (f j))
  none_holds = ap (λ (x : ℕ). eqb x 0) ha ∙ test_none w f

  pub byte_holds : (i : ℕ) → 8 * i + 8 ≤ w → byte_of i (members a) ≡ byte_of i f
  byte_holds i h =
      ap (λ (x : ℕ). byte_of i (members x)) ha ∙ number_cong 8 _ _ (λ j l. members_number w f (8 * i + j) (omega arith))

-- ---- a loop that gathers a set in one word, member by member
ltb_more : (j n : ℕ) → ltb j (n + 1) ≡ (ltb j n || eqb j n)
ltb_more j n = go (dec_lt j n) (ℕ_discrete j n)
  where
    go : Dec (j < n) → Dec (j ≡ n) → ltb j (n + 1) ≡ (ltb j n || eqb j n)
    go (yes l) d = rw (lt-ltb j n l, lt-ltb j (n + 1) (omega arith))
    go (no l) (yes e) = rw (le-ltb j n (omega arith), eq-eqb j n e, lt-ltb j (n + 1) (omega arith))
    go (no l) (no d) = rw (le-ltb j n (omega arith), ne_eqb j n d, le-ltb j (n + 1) (omega arith))

pub upto_none : (w : ℕ) (f : Set) → 0 ≡ number w (upto 0 f)
upto_none w f = zero_holds w ∙ number_cong w empty_set (upto 0 f) (λ j l. sym (ap (λ (t : Bool). t && f j) (le-ltb j 0 (omega arith))))

at_most_false : (a b c : Bool) → (b ≡ true → c ≡ false) → ((a || b) && c) ≡ (a && c)
at_most_false true b c h = refl
at_most_false false true c h = h refl
at_most_false false false c h = refl

joins : (a b c : Bool) → (b ≡ true → c ≡ true) → ((a && c) || b) ≡ ((a || b) && c)
joins true true c h = ap (λ (t : Bool). t || true) (h refl) ∙ sym (h refl)
joins true false c h = or-false c
joins false true c h = sym (h refl)
joins false false c h = refl

module _ (w : ℕ) {a : ℕ} (n : ℕ) (f : Set) (ha : a ≡ number w (upto n f)) where
  pub upto_miss : f n ≡ false → a ≡ number w (upto (n + 1) f)
  upto_miss e =
      ha ∙ number_cong w (upto n f) (upto (n + 1) f)
      (λ j l. sym (ap (λ (t : Bool). t && f j) (ltb_more j n) ∙ at_most_false (ltb j n) (eqb j n) (f j) (λ q. ap f (eqb-true j n q) ∙ e)))

  pub upto_hit : {r : ℕ} → f n ≡ true → r ≡ number w (insert n (members a)) → r ≡ number w (upto (n + 1) f)
  upto_hit e q =
      inserted w (upto n f) ha n q
      ∙ number_cong w (insert n (upto n f)) (upto (n + 1) f)
      (λ j l. joins (ltb j n) (eqb j n) (f j) (λ t. ap f (eqb-true j n t) ∙ e) ∙ sym (ap (λ (t : Bool). t && f j) (ltb_more j n)))

-- ---- narrowing: where nothing stands at or above n, a test over w digits is one over n
pub below_narrow : (n w : ℕ) (p : ℕ → Bool) → n ≤ w → ((j : ℕ) → n ≤ j → p j ≡ true) → all_below w p ≡ all_below n p
below_narrow n w p h e =
    same_bool (all_below w p) (all_below n p)
    (λ t. below_make n p (λ j l. below_at w p t j (omega arith)))
    (λ t. below_make w p (λ j l. at j (dec_lt j n) t))
  where
    at : (j : ℕ) → Dec (j < n) → all_below n p ≡ true → p j ≡ true
    at j (yes l) t = below_at n p t j l
    at j (no l) t = e j (omega arith)

pub within_narrow : (n w : ℕ) (f g : Set) → n ≤ w → ((j : ℕ) → n ≤ j → f j ≡ false) → within w f g ≡ within n f g
within_narrow n w f g h e = below_narrow n w (λ j. not (f j) || g j) h (λ j l. ap (λ (t : Bool). not t || g j) (e j l))

pub apart_narrow : (n w : ℕ) (f g : Set) → n ≤ w → ((j : ℕ) → n ≤ j → f j ≡ false) → apart w f g ≡ apart n f g
apart_narrow n w f g h e = below_narrow n w (λ j. not (f j && g j)) h (λ j l. ap (λ (t : Bool). not (t && g j)) (e j l))

-- a set with no member at or above n takes n digits: the digits behind are 0
pub number_narrow : (n r : ℕ) (f : Set) → ((j : ℕ) → n ≤ j → f j ≡ false) → number (n + r) f ≡ number n f
number_narrow n r f e =
    number_split n r f
    ∙ ap (λ (x : ℕ). number n f + 2 ^ n * x) (number_cong r (from n f) empty_set (λ j l. e (n + j) (omega arith)) ∙ number_empty r)
    ∙ ap (λ (x : ℕ). number n f + x) (mul-zero (2 ^ n)) ∙ add-zero (number n f)
