-- Laws of decimal texts: how the text of n follows from that of n / 10, and that it is the one numeral with the value n.
-- (Worked is named so that a changed definition is refused at the examples first.)
-- Assumes nothing.
use Prim.Native.Nat.{ℕ, zero, suc, ◌+◌, ◌-◌, ◌*◌, ◌/◌, ◌%◌, ◌^◌, ◌<◌, ◌≤◌}
use native.Mathlib.Nat.{not-suc-le-zero, pow-suc}
use native.Mathlib.Omega.{arith}
use mathlib.Core.Path.{◌≡◌, refl, sym, ap, ap₂, subst, ◌∙◌}
use mathlib.Core.Logic.{◌⊎◌, inl, inr, ⊎_elim}
use mathlib.Core.Bool.{Bool, true, false}
use mathlib.Core.List.{List, [], ◌∷◌, ◌++◌, append_assoc, append-nil}
use lib.Dec.{ltb}
use lib.ListN.{length, take, drop, get_or, length-append, get_or-append}
use lib.Seq.{take-append_seam, drop-append_seam, take_at, drop_at}
use borrow.Author.Tests.{ltb-true, ltb-false, lt-ltb, le-ltb}
use Rattle.model.specs.Sets.{Each, nil, cons}
use Rattle.model.proofs.Tests.{decide, each_append}
use Rattle.session.specs.Decimals.{zero_sign, digit, spelled, decimal, IsDigit, Numeral, value_from, value}
use Rattle.session.specs.Claims.{OneNumeral}
use Rattle.session.proofs.Worked

-- a text with the digit of d behind it
abbrev then_digit : List ℕ → ℕ → List ℕ
then_digit text d = text ++ (digit d ∷ [])

-- any number of steps above n spells the same
steps_enough : (j k n : ℕ) → n < j → n < k → spelled j n ≡ spelled k n
unfolding spelled
steps_enough zero k n p q = absurd (not-suc-le-zero p)
steps_enough (suc j) zero n p q = absurd (not-suc-le-zero q)
steps_enough (suc j) (suc k) n p q = go (ltb n 10) refl (λ h. steps_enough j k (n / 10) (omega arith) (omega arith))
  where
    go : (b : Bool) → ltb n 10 ≡ b → (10 ≤ n → spelled j (n / 10) ≡ spelled k (n / 10))
        → ◌≡◌ {A = List ℕ} (elim b [ true ↦ digit n ∷ [] | false ↦ then_digit (spelled j (n / 10)) (n % 10) ])
        (elim b [ true ↦ digit n ∷ [] | false ↦ then_digit (spelled k (n / 10)) (n % 10) ])
    go true e f = refl
    go false e f = ap (λ (l : List ℕ). then_digit l (n % 10)) (f (ltb-false n 10 e))

-- the step of n's text, by whether n has one digit
abbrev step : ℕ → Bool → List ℕ
step n b = elim b as (λ _. List ℕ) [ true ↦ digit n ∷ [] | false ↦ then_digit (spelled n (n / 10)) (n % 10) ]

pub decimal_small : (n : ℕ) → n < 10 → decimal n ≡ digit n ∷ []
unfolding decimal spelled
decimal_small n h = ap (step n) (lt-ltb n 10 h)

pub decimal_large : (n : ℕ) → 10 ≤ n → decimal n ≡ then_digit (decimal (n / 10)) (n % 10)
unfolding decimal spelled
decimal_large n h =
    ap (step n) (le-ltb n 10 h)
    ∙ ap (λ (l : List ℕ). then_digit l (n % 10)) (steps_enough n (suc (n / 10)) (n / 10) (omega arith) (omega arith))

-- what holds of the digits, and of n where it holds of n / 10, holds of every number
by_tenths {ℓ} : (P : ℕ → Type ℓ) → ((n : ℕ) → n < 10 → P n) → ((n : ℕ) → 10 ≤ n → P (n / 10) → P n) → (n : ℕ) → P n
by_tenths P small large n = go (suc n) n (omega arith)
  where
    pick : (n : ℕ) (b : Bool) → ltb n 10 ≡ b → (10 ≤ n → P (n / 10)) → P n
    pick n true e f = small n (ltb-true n 10 e)
    pick n false e f = large n (ltb-false n 10 e) (f (ltb-false n 10 e))

    go : (k n : ℕ) → n < k → P n
    go zero n h = absurd (not-suc-le-zero h)
    go (suc k) n h = pick n (ltb n 10) refl (λ g. go k (n / 10) (omega arith))

-- one digit more
value_more : (a : ℕ) (text : List ℕ) (b : ℕ) → value_from a (text ++ (b ∷ [])) ≡ value_from a text * 10 + (b - zero_sign)
value_more a [] b = refl
value_more a (x ∷ xs) b = value_more (a * 10 + (x - zero_sign)) xs b

pub value_decimal : (n : ℕ) → value (decimal n) ≡ n
value_decimal =
    by_tenths (λ n. value (decimal n) ≡ n)
    (λ n h. ap value (decimal_small n h) ∙ omega arith)
    (λ n h e. ap value (decimal_large n h) ∙ value_more 0 (decimal (n / 10)) (digit (n % 10)) ∙ omega arith)

pub decimal_same : (m n : ℕ) → decimal m ≡ decimal n → m ≡ n
decimal_same m n e = sym (value_decimal m) ∙ ap value e ∙ value_decimal n

-- a digit behind the text of a, which is not 0
pub decimal_more : (a b : ℕ) → 0 < a → IsDigit b → decimal (a * 10 + (b - zero_sign)) ≡ decimal a ++ (b ∷ [])
decimal_more a b p d =
    let n : ℕ = a * 10 + (b - zero_sign) in
    let q : n / 10 ≡ a = omega arith in
    let r : digit (n % 10) ≡ b = omega arith in
    decimal_large n (omega arith) ∙ ap₂ (λ (m : ℕ) (x : ℕ). decimal m ++ (x ∷ [])) q r

-- digits behind the text of a, which is not 0
decimal_from : (a : ℕ) {text : List ℕ} → 0 < a → Each IsDigit text → decimal (value_from a text) ≡ decimal a ++ text
decimal_from a p nil = sym (append-nil (decimal a))
decimal_from a p (cons {x = b} {xs = bs} d ds) =
    decimal_from (a * 10 + (b - zero_sign)) (omega arith) ds
    ∙ ap (λ (l : List ℕ). l ++ bs) (decimal_more a b p d)
    ∙ append_assoc (decimal a) (b ∷ []) bs

length_more : (text : List ℕ) (b : ℕ) → length (text ++ (b ∷ [])) ≡ length text + 1
length_more text b = length-append text (b ∷ [])

pub length_large : (n : ℕ) → 10 ≤ n → length (decimal n) ≡ length (decimal (n / 10)) + 1
length_large n h = ap length (decimal_large n h) ∙ length_more (decimal (n / 10)) (digit (n % 10))

pub decimal_not_empty : (n : ℕ) → 0 < length (decimal n)
decimal_not_empty =
    by_tenths (λ n. 0 < length (decimal n))
    (λ n h. omega (arith, ap length (decimal_small n h)))
    (λ n h e. omega (arith, length_large n h))

decimal_digits : (n : ℕ) → Each IsDigit (decimal n)
decimal_digits =
    by_tenths (λ n. Each IsDigit (decimal n))
    (λ n h. rw (decimal_small n h) (cons {x = digit n} (omega arith) nil))
    (λ n h e. rw (decimal_large n h) (each_append e (cons {x = digit (n % 10)} (omega arith) nil)))

decimal_first : (n : ℕ) → 0 < n → get_or (decimal n) 0 0 ≡ zero_sign → ⊥
decimal_first =
    by_tenths (λ n. 0 < n → get_or (decimal n) 0 0 ≡ zero_sign → ⊥)
    (λ n h p e. omega (arith, ap (λ (l : List ℕ). get_or l 0 0) (decimal_small n h)))
    (λ n h f p e. f (omega arith)
    (sym (get_or-append (decimal (n / 10)) (digit (n % 10) ∷ []) 0 0 (decimal_not_empty (n / 10)))
    ∙ sym (ap (λ (l : List ℕ). get_or l 0 0) (decimal_large n h)) ∙ e))

-- a number has several digits where it is 10 or more
pub decimal_several : (n : ℕ) → 10 ≤ n → 1 < length (decimal n)
decimal_several n h = omega (arith, length_large n h, decimal_not_empty (n / 10))

decimal_long : (n : ℕ) → 1 < length (decimal n) → 10 ≤ n
decimal_long n h =
    ⊎_elim (λ e. absurd (omega (arith, ap length (decimal_small n (ltb-true n 10 e))))) (ltb-false n 10) (decide (ltb n 10))

decimal_numeral : (n : ℕ) → Numeral (decimal n)
decimal_numeral n =
    record {
      digits = decimal_digits n;
      not_empty = decimal_not_empty n;
      no_leading_zero = λ h. let p = decimal_long n h in decimal_first n (omega arith);
    }

decimal_value : (text : List ℕ) → Numeral text → decimal (value text) ≡ text
decimal_value [] t = absurd (not-suc-le-zero t.not_empty)
decimal_value (b ∷ bs) t = go bs t.digits t.no_leading_zero
  where
    go : (bs : List ℕ) → Each IsDigit (b ∷ bs) → (1 < length (b ∷ bs) → b ≡ zero_sign → ⊥) → decimal (value (b ∷ bs)) ≡ b ∷ bs
    go [] (cons d ds) f =
        let e : digit (0 * 10 + (b - zero_sign)) ≡ b = omega arith in
        decimal_small (0 * 10 + (b - zero_sign)) (omega arith) ∙ ap (λ (x : ℕ). x ∷ []) e
    go (x ∷ xs) (cons d ds) f =
        let n : ℕ = 0 * 10 + (b - zero_sign) in
        let g : b ≡ zero_sign → ⊥ = f (omega arith) in
        let e : digit n ≡ b = omega arith in
        decimal_from n (omega arith) ds ∙ ap (λ (l : List ℕ). l ++ (x ∷ xs)) (decimal_small n (omega arith) ∙ ap (λ (y : ℕ). y ∷ []) e)

pub one_numeral : OneNumeral
one_numeral n text =
    (λ e. (subst Numeral (sym e) (decimal_numeral n), ap value e ∙ value_decimal n), λ t. sym (decimal_value text t.0) ∙ ap decimal t.1)

-- a text and its last byte are each what they are
last_same : (xs ys : List ℕ) (a b : ℕ) → xs ++ (a ∷ []) ≡ ys ++ (b ∷ []) → (xs ≡ ys) × (a ≡ b)
last_same xs ys a b e =
    let l : length xs ≡ length ys = omega (arith, ap length e, length_more xs a, length_more ys b) in
    let d : a ∷ [] ≡ b ∷ [] = sym (drop-append_seam xs (a ∷ [])) ∙ ap (drop (length xs)) e ∙ drop_at ys (b ∷ []) (length xs) (sym l) in
    (sym (take-append_seam xs (a ∷ [])) ∙ ap (take (length xs)) e ∙ take_at ys (b ∷ []) (length xs) (sym l), cc)

-- a text of several digits without its last one is that of n / 10
pub decimal_split : (n : ℕ) (text : List ℕ) (b : ℕ) → 0 < length text → text ++ (b ∷ []) ≡ decimal n → (10 ≤ n) × (text ≡ decimal (n / 10)) × (b ≡ digit (n % 10))
decimal_split n text b p e =
    let l : 10 ≤ n = decimal_long n (omega (arith, ap length e, length_more text b)) in
    let s = last_same text (decimal (n / 10)) b (digit (n % 10)) (e ∙ decimal_large n l) in
    (l, s.0, s.1)

-- a number below a power of ten has no more digits
pub decimal_length : (k n : ℕ) → n < 10 ^ suc k → length (decimal n) ≤ suc k
decimal_length zero n h = omega (arith, ap length (decimal_small n (omega arith)))
decimal_length (suc k) n h = go (decimal_length k (n / 10)) (decide (ltb n 10))
  where
    go : (n / 10 < 10 ^ suc k → length (decimal (n / 10)) ≤ suc k) → (ltb n 10 ≡ true) ⊎ (ltb n 10 ≡ false) → length (decimal n) ≤ suc (suc k)
    go f (inl e) = omega (arith, ap length (decimal_small n (ltb-true n 10 e)))
    go f (inr e) =
        let p = f (omega (arith, pow-suc 10 (suc k))) in
        omega (arith, length_large n (ltb-false n 10 e))
