-- The least member of a set, its members below a limit, and what is left without the least.
-- Assumes nothing.
use Prim.Native.Nat.{ℕ, zero, suc, ◌+◌, ◌-◌, ◌^◌, ◌%◌, ◌<◌, ◌≤◌}
use mathlib.Core.Bool.{Bool, true, false, ◌&&◌, not, cond}
use mathlib.Core.Path.{◌≡◌, refl, sym, ap, ap₂, ◌∙◌}
use native.Mathlib.Decide.{ℕ_discrete, dec_lt}
use native.Mathlib.Nat.{div-one, zero-add}
use native.Mathlib.Omega.{arith}
use borrow.Author.Tests.{lt-ltb, le-ltb, eq-eqb}
use lib.Dec.{eqb}
use lib.Count.{count_trailing_zeros}
use Rattle.std.specs.Int.{w64}
use Rattle.std.proofs.Math.Bool.{and-false, true-and}
use Rattle.std.proofs.lemmas.List.Sums.{sum_by-cons}
use Rattle.std.proofs.lemmas.Nat.Bits.{bit_at-trailing_zeros}
use Rattle.std.specs.List.{count_by}
use Rattle.model.specs.Sets.{Set, singleton, from, number, range}
use Rattle.model.proofs.Tests.{and_left}
use Rattle.model.proofs.Masks.{number_cong}
use Rattle.sets.specs.Sets.{members, remove, upto, Least}
use Rattle.sets.proofs.Laws.{members_number, members_above, number_part, number_narrow, number_singleton, own}

-- ---- the least
pub least_64 : (m : ℕ) → m < 2 ^ 64 → (m ≡ 0 → ⊥) → Least (members m) (count_trailing_zeros 64 m)
unfolding members
least_64 m h some =
    let low = bit_at-trailing_zeros w64 m (omega (arith, some)) h in
    record {
      hit = ap (λ (x : ℕ). eqb x 1) low.1;
      gap = λ j l. ap (λ (x : ℕ). eqb x 1) (low.2 j l);
    }

-- ---- those below a limit
below_all : (f : Set) (e j : ℕ) → j < e → f j ≡ upto e f j
below_all f e j h = sym (ap (λ (x : Bool). x && f j) (lt-ltb j e h) ∙ true-and (f j))

pub whole_word : (set : ℕ) → set < 2 ^ 64 → set ≡ number 64 (upto 64 (members set))
whole_word set h = own 64 set h ∙ number_cong 64 (members set) (upto 64 (members set)) (λ j l. below_all (members set) 64 j l)

pub below_word : (set end p : ℕ) → set < 2 ^ 64 → end < 64 → p ≡ number 64 (singleton end) → set % p ≡ number 64 (upto end (members set))
below_word set end p h l e =
    let f = members set in
    let k : 64 ≡ 0 + (end + (64 - end)) = omega arith in
    let w : end + (64 - end) ≡ 64 = omega arith in
    ap₂ (λ (x y : ℕ). x % y) (own 64 set h ∙ ap (λ (x : ℕ). number x f) k ∙ sym (div-one _)) (e ∙ number_singleton 64 end l)
    ∙ number_part 0 end (64 - end) f
    ∙ number_cong end (from 0 f) (upto end f) (λ j m. ap f (zero-add j) ∙ below_all f end j m)
    ∙ sym (number_narrow end (64 - end) (upto end f) (λ j m. ap (λ (x : Bool). x && f j) (le-ltb j end m)))
    ∙ ap (λ (x : ℕ). number x (upto end f)) w

-- ---- what is left without one of them
pub left_members : (m c : ℕ) {left : ℕ} → left ≡ number 64 (remove c (members m)) → (j : ℕ) → j < 64 → members left j ≡ remove c (members m) j
left_members m c e j l = ap (λ (x : ℕ). members x j) e ∙ members_number 64 (remove c (members m)) j l

-- among the numbers from i on it has fewer members
abbrev one_if : Bool → ℕ
one_if b = cond b 1 0

one_at_most : (a b : Bool) → (a ≡ true → b ≡ true) → one_if a ≤ one_if b
one_at_most true b h = let e : one_if b ≡ 1 = ap one_if (h refl) in omega (arith, e)
one_at_most false true h = omega arith
one_at_most false false h = omega arith

count_step : (f : Set) (i n : ℕ) → count_by f (range i (suc n)) ≡ one_if (f i) + count_by f (range (suc i) n)
count_step f i n = sum_by-cons (λ j. one_if (f j)) i (range (suc i) n)

module _ (f g : Set) (h : (j : ℕ) → j < 64 → f j ≡ true → g j ≡ true) where
  count_at_most : (i n : ℕ) → i + n ≤ 64 → count_by f (range i n) ≤ count_by g (range i n)
  count_at_most i zero l = omega arith
  count_at_most i (suc n) l =
      omega (arith, count_step f i n, count_step g i n, one_at_most (f i) (g i) (h i (omega arith)), count_at_most (suc i) n (omega arith))

  count_less : (c : ℕ) → f c ≡ false → g c ≡ true → (i n : ℕ) → i ≤ c → c < i + n → i + n ≤ 64 → count_by f (range i n) < count_by g (range i n)
  count_less c p q i zero l m k = absurd (omega arith)
  count_less c p q i (suc n) l m k = go (ℕ_discrete i c) (λ d. count_less c p q (suc i) n (omega arith) (omega arith) (omega arith))
    where
      go : Dec (i ≡ c) → ((i ≡ c → ⊥) → count_by f (range (suc i) n) < count_by g (range (suc i) n)) → count_by f (range i (suc n)) < count_by g (range i (suc n))
      go (yes e) rest =
          let a : one_if (f i) ≡ 0 = ap one_if (ap f e ∙ p) in
          let b : one_if (g i) ≡ 1 = ap one_if (ap g e ∙ q) in
          omega (arith, a, b, count_step f i n, count_step g i n, count_at_most (suc i) n (omega arith))
      go (no d) rest = omega (arith, count_step f i n, count_step g i n, one_at_most (f i) (g i) (h i (omega arith)), rest d)

pub fewer : (m c : ℕ) → c < 64 → members m c ≡ true → (left : ℕ) → left ≡ number 64 (remove c (members m))
    → count_by (members left) (range 0 64) < count_by (members m) (range 0 64)
fewer m c l h left e =
    count_less (members left) (members m) (λ j k t. and_left (members m j) (not (eqb j c)) (sym (left_members m c e j k) ∙ t)) c
    (left_members m c e c l ∙ ap (λ (x : Bool). members m c && not x) (eq-eqb c c refl) ∙ and-false (members m c)) h 0 64 (omega arith) l (omega arith)

-- the least of a word's members is below its width
pub inside_64 : (m c : ℕ) → m < 2 ^ 64 → Least (members m) c → c < 64
inside_64 m c h least = go (dec_lt c 64)
  where
    go : Dec (c < 64) → c < 64
    go (yes l) = l
    go (no l) = absurd (cc (least.hit, members_above 64 m c h (omega arith)))

pub none_64 : (m : ℕ) → m ≡ 0 → (j : ℕ) → members m j ≡ false
none_64 m e j = ap (λ (x : ℕ). members x j) e ∙ members_above 0 0 j (omega arith) (omega arith)
