-- Bytes compared as the numbers that they make.
-- Assumes nothing.
use Prim.Native.Nat.{ℕ, zero, suc, ◌+◌, ◌*◌, ◌/◌, ◌^◌, ◌%◌, ◌<◌, ◌≤◌}
use native.Mathlib.Nat.{add-zero, add-suc, suc_inj, div-one}
use native.Mathlib.Omega.{arith}
use mathlib.Core.Path.{◌≡◌, refl, sym, ap, ◌∙◌}
use mathlib.Core.Bool.{Bool, ◌&&◌}
use mathlib.Core.List.{List, [], ◌∷◌, ◌++◌, map}
use lib.Dec.{eqb}
use borrow.Author.Tests.{eqb-true, eq-eqb}
use lib.ListN.{length, get_or, take, drop, length-drop}
use lib.Seq.{take-add, drop-drop, drop-cons, length-take-le, ext_get_or}
use Rattle.model.specs.Sets.{Set, Each, nil, cons, IsByte, from, number, range, equal_lists}
use Rattle.model.specs.Image.{from_bytes, set_bytes}
use Rattle.model.proofs.Tests.{and_left, and_right, and_both}
use Rattle.model.proofs.Masks.{number_cong, set_byte}
use Rattle.model.proofs.Sizes.{length_set_bytes}
use Rattle.sets.specs.Sets.{members, byte_of}
use Rattle.sets.proofs.Laws.{same_bool, number_members, number_split, number_part, byte_holds}

-- the number of a first byte
one_byte : (bs : List ℕ) → from_bytes (take 1 bs) ≡ get_or bs 0 0
one_byte [] = refl
one_byte (b ∷ bs) = add-zero b

-- bytes are the same where the numbers that they make are
digits_same : (x y a b : ℕ) → x < 256 → y < 256 → eqb (x + 256 * a) (y + 256 * b) ≡ (eqb x y && eqb a b)
digits_same x y a b p q =
    same_bool _ _
    (λ e.
    let s = eqb-true (x + 256 * a) (y + 256 * b) e in
    and_both (eq-eqb x y (omega arith)) (eq-eqb a b (omega arith)))
    (λ e.
    let s = eqb-true x y (and_left (eqb x y) (eqb a b) e) in
    let t = eqb-true a b (and_right (eqb x y) (eqb a b) e) in
    eq-eqb (x + 256 * a) (y + 256 * b) (omega arith))

numbers_same : {xs ys : List ℕ} → Each IsByte xs → Each IsByte ys → length xs ≡ length ys → eqb (from_bytes xs) (from_bytes ys) ≡ equal_lists xs ys
numbers_same nil nil e = eq-eqb 0 0 refl
numbers_same nil (cons q qs) e = absurd (omega arith)
numbers_same (cons p ps) nil e = absurd (omega arith)
numbers_same (cons {x = x} {xs = xs} p ps) (cons {x = y} {xs = ys} q qs) e =
    digits_same x y (from_bytes xs) (from_bytes ys) p q ∙ ap (λ (t : Bool). eqb x y && t) (numbers_same ps qs (suc_inj e))

-- k bytes from an offset on, one by one
bytes_from : (l : List ℕ) (at k j : ℕ) → at + j + k ≤ length l → take k (drop (at + j) l) ≡ map (λ i. get_or l (at + i) 0) (range j k)
bytes_from l at zero j h = refl
bytes_from l at (suc k) j h =
    ap (take (suc k)) (drop-cons l (at + j) 0 (omega arith) ∙ ap (λ (n : ℕ). get_or l (at + j) 0 ∷ drop n l) (sym (add-suc at j)))
    ∙ ap (λ (s : List ℕ). get_or l (at + j) 0 ∷ s) (bytes_from l at k (suc j) (omega arith))

bytes_at : (l : List ℕ) (at k : ℕ) → at + k ≤ length l → take k (drop at l) ≡ map (λ i. get_or l (at + i) 0) (range 0 k)
bytes_at l at k h = ap (λ (n : ℕ). take k (drop n l)) (sym (add-zero at)) ∙ bytes_from l at k 0 (omega arith)

-- the number of a set's bytes
set_number : (f : Set) (k j : ℕ) → from_bytes (map (λ i. byte_of i f) (range j k)) ≡ number (8 * k) (from (8 * j) f)
unfolding number
set_number f zero j = refl
set_number f (suc k) j =
    let n = set_number f k (suc j) in
    let c = number_cong (8 * k) (from (8 * suc j) f) (from 8 (from (8 * j) f)) (λ i l. ap f (omega arith)) in
    let e : 8 + 8 * k ≡ 8 * suc k = omega arith in
    omega (arith, number_split 8 (8 * k) (from (8 * j) f)) ∙ ap (λ (v : ℕ). number v (from (8 * j) f)) e

word_number : (w : ℕ) → w < 2 ^ 64 → from_bytes (set_bytes 6 (members w)) ≡ w % 281474976710656
unfolding set_bytes
word_number w h =
    set_number (members w) 6 0
    ∙ sym (number_part 0 48 16 (members w))
    ∙ ap (λ (x : ℕ). x % 281474976710656) (div-one (number 64 (members w)) ∙ number_members 64 w h)

-- the bytes of a word are those of the set that it is known to hold
set_bytes_hold : (w k : ℕ) {a : ℕ} (f : Set) → a ≡ number w f → 8 * k ≤ w → set_bytes k (members a) ≡ set_bytes k f
set_bytes_hold w k {a} f e h =
    let p = length_set_bytes k (members a) in
    ext_get_or 0 _ _ (p ∙ sym (length_set_bytes k f))
    (λ i l. set_byte k (members a) i (omega arith) ∙ byte_holds w f e i (omega arith) ∙ sym (set_byte k f i (omega arith)))

-- four bytes and what stands behind them
from_four : (xs ys : List ℕ) → length xs ≡ 4 → from_bytes (xs ++ ys) ≡ from_bytes xs + 4294967296 * from_bytes ys
from_four [] ys e = absurd (omega arith)
from_four (a ∷ []) ys e = absurd (omega arith)
from_four (a ∷ b ∷ []) ys e = absurd (omega arith)
from_four (a ∷ b ∷ c ∷ []) ys e = absurd (omega arith)
from_four (a ∷ b ∷ c ∷ d ∷ []) ys e = omega arith
from_four (a ∷ b ∷ c ∷ d ∷ f ∷ xs) ys e = absurd (omega arith)

-- the number of four bytes of a list
abbrev four_at : List ℕ → ℕ → ℕ
four_at l at = from_bytes (take 4 (drop at l))

four_more : (l : List ℕ) (at k : ℕ) → at + 4 ≤ length l → from_bytes (take (4 + k) (drop at l)) ≡ four_at l at + 4294967296 * from_bytes (take k (drop (at + 4) l))
four_more l at k h =
    let d = length-drop at l in
    ap from_bytes (take-add 4 k (drop at l))
    ∙ from_four (take 4 (drop at l)) (take k (drop 4 (drop at l))) (length-take-le 4 (drop at l) (omega arith))
    ∙ ap (λ (z : List ℕ). four_at l at + 4294967296 * from_bytes (take k z)) (drop-drop 4 at l)

-- it is made of the bytes one by one
pub four_bytes : (l : List ℕ) (at : ℕ) → at + 4 ≤ length l
    → get_or l at 0 + 256 * get_or l (at + 1) 0 + 65536 * (get_or l (at + 2) 0 + 256 * get_or l (at + 3) 0) ≡ from_bytes (take 4 (drop at l))
four_bytes l at h =
    let z : get_or l (at + 0) 0 ≡ get_or l at 0 = ap (λ (n : ℕ). get_or l n 0) (add-zero at) in
    let m = ap from_bytes (bytes_at l at 4 h) in
    omega (arith, z, m)

-- twelve bytes of two sets as one number, and as one of eight bytes and one of four
module _ (f g : ℕ) (f_fits : f < 2 ^ 64) (g_fits : g < 2 ^ 64) where
  parts_same : (q p : ℕ) → q < 18446744073709551616 → p < 4294967296
      → (eqb q (f % 281474976710656 + 281474976710656 * (g % 65536)) && eqb p (g / 65536 % 4294967296))
      ≡ eqb (q + 18446744073709551616 * p) (f % 281474976710656 + 281474976710656 * (g % 281474976710656))
  parts_same q p h k =
      let a : ℕ = f % 281474976710656 + 281474976710656 * (g % 65536) in
      let b : ℕ = g / 65536 % 4294967296 in
      same_bool _ _
      (λ e.
      let s = eqb-true q a (and_left (eqb q a) (eqb p b) e) in
      let t = eqb-true p b (and_right (eqb q a) (eqb p b) e) in
      eq-eqb (q + 18446744073709551616 * p) (f % 281474976710656 + 281474976710656 * (g % 281474976710656)) (omega arith))
      (λ e.
      let s = eqb-true (q + 18446744073709551616 * p) (f % 281474976710656 + 281474976710656 * (g % 281474976710656)) e in
      and_both (eq-eqb q a (omega arith)) (eq-eqb p b (omega arith)))

  pair_number : from_bytes (set_bytes 6 (members f) ++ set_bytes 6 (members g)) ≡ f % 281474976710656 + 281474976710656 * (g % 281474976710656)
  unfolding set_bytes
  pair_number = omega (arith, word_number f f_fits, word_number g g_fits)
