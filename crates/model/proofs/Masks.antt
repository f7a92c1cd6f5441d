-- Sets as binary numbers, for any width: the bound, the digits, and the bits of a set's bytes.
-- Assumes nothing.
use Prim.Native.Nat.{ℕ, zero, suc, ◌+◌, ◌*◌, ◌^◌, ◌/◌, ◌%◌, ◌<◌}
use native.Mathlib.Nat.{pow-suc, div-div-eq-div-mul, add-zero, add-suc, suc-add, div-one}
use native.Mathlib.Omega.{arith}
use mathlib.Core.Path.{◌≡◌, refl, sym, ap, ap₂, ◌∙◌}
use mathlib.Core.Bool.{Bool, true, false}
use mathlib.Core.List.{map}
use lib.ListN.{get_or}
use Rattle.model.specs.Sets.{Set, bit, from, number, range}
use Rattle.model.specs.Image.{set_bytes}

pub bit_lt : (b : Bool) → bit b < 2
bit_lt true = omega arith
bit_lt false = omega arith

-- the lowest digit, and the others
pub number_suc : (w : ℕ) (f : Set) → number (suc w) f ≡ bit (f 0) + 2 * number w (λ j. f (suc j))
unfolding number
number_suc w f = refl

pub number_below : (w : ℕ) (f : Set) → number w f < 2 ^ w
unfolding number
number_below zero f = omega arith
number_below (suc w) f = omega (arith, bit_lt (f 0), number_below w (λ j. f (suc j)), pow-suc 2 w)

-- digit j says whether j is in the set
pub number_digit : (w : ℕ) (f : Set) (j : ℕ) → j < w → number w f / 2 ^ j % 2 ≡ bit (f j)
unfolding number
number_digit zero f j h = absurd (omega arith)
number_digit (suc w) f zero h =
    let q = bit_lt (f 0) in
    ap (λ (x : ℕ). x % 2) (div-one (bit (f 0) + 2 * number w (λ j. f (suc j)))) ∙ omega arith
number_digit (suc w) f (suc j) h =
    let q = bit_lt (f 0) in
    let x = bit (f 0) + 2 * number w (λ i. f (suc i)) in
    let p : x / 2 ≡ number w (λ i. f (suc i)) = omega arith in
    let s : 2 ^ suc j ≡ 2 * 2 ^ j = omega (arith, pow-suc 2 j) in
    ap (λ (y : ℕ). x / y % 2) s
    ∙ ap (λ (y : ℕ). y % 2) (sym (div-div-eq-div-mul x 2 (2 ^ j)))
    ∙ ap (λ (y : ℕ). y / 2 ^ j % 2) p
    ∙ number_digit w (λ i. f (suc i)) j (omega arith)

-- sets that agree below the width have the same number
pub number_cong : (w : ℕ) (f g : Set) → ((j : ℕ) → j < w → f j ≡ g j) → number w f ≡ number w g
unfolding number
number_cong zero f g h = refl
number_cong (suc w) f g h =
    ap₂ (λ (b : Bool) (x : ℕ). bit b + 2 * x) (h 0 (omega arith))
    (number_cong w (λ j. f (suc j)) (λ j. g (suc j)) (λ j l. h (suc j) (omega arith)))

-- byte i of a set holds its contexts 8i to 8i + 7
byte_from : (f : Set) (i w j : ℕ) → j < w → get_or (map (λ k. number 8 (from (8 * k) f)) (range i w)) j 0 ≡ number 8 (from (8 * (i + j)) f)
byte_from f i zero j h = absurd (omega arith)
byte_from f i (suc w) zero h = ap (λ (k : ℕ). number 8 (from (8 * k) f)) (sym (add-zero i))
byte_from f i (suc w) (suc j) h =
    byte_from f (suc i) w j (omega arith) ∙ ap (λ (k : ℕ). number 8 (from (8 * k) f)) (suc-add i j ∙ sym (add-suc i j))

pub set_byte : (w : ℕ) (f : Set) (i : ℕ) → i < w → get_or (set_bytes w f) i 0 ≡ number 8 (from (8 * i) f)
unfolding set_bytes
set_byte w f i h = byte_from f 0 w i h ∙ ap (λ (k : ℕ). number 8 (from (8 * k) f)) (omega arith)

-- bit by bit: context c is bit c mod 8 of byte c / 8
pub set_bit : (w : ℕ) (f : Set) (c : ℕ) → c < 8 * w → get_or (set_bytes w f) (c / 8) 0 / 2 ^ (c % 8) % 2 ≡ bit (f c)
set_bit w f c h =
    let p : 8 * (c / 8) + c % 8 ≡ c = omega arith in
    ap (λ (x : ℕ). x / 2 ^ (c % 8) % 2) (set_byte w f (c / 8) (omega arith))
    ∙ number_digit 8 (from (8 * (c / 8)) f) (c % 8) (omega arith)
    ∙ ap (λ (x : ℕ). bit (f x)) p
