-- Bytes put at an offset, one behind the other; and runs of stores.
-- Assumes nothing.
use Prim.Native.Nat.{ℕ, suc, ◌+◌, ◌-◌, ◌<◌, ◌≤◌}
use native.Mathlib.Nat.{add-zero}
use native.Mathlib.Numerals.{add-one}
use native.Mathlib.Omega.{arith}
use mathlib.Core.Path.{◌≡◌, sym, ap, ap₂, ◌∙◌}
use mathlib.Core.List.{List, [], ◌∷◌, ◌++◌, append_assoc, append-nil}
use lib.ListN.{length, set, take, drop, length-append, take-append-drop}
use lib.Seq.{sets, take_at, length-take-le, drop-append-add, drop-drop, set_split, append_snoc}

-- the list with these bytes in place of its own from an offset on
abbrev pub put : List ℕ → ℕ → List ℕ → List ℕ
put l at bytes = take at l ++ bytes ++ drop (at + length bytes) l

-- one byte, and none
pub put_one : (l : List ℕ) (at v : ℕ) → at < length l → set l at v ≡ put l at (v ∷ [])
put_one l at v h =
    set_split l at v h ∙ sym (append_snoc (take at l) v (drop (suc at) l)) ∙ ap (λ (k : ℕ). take at l ++ (v ∷ []) ++ drop k l) (sym (add-one at))

pub put_none : (l : List ℕ) (at : ℕ) → l ≡ put l at []
put_none l at =
    sym (ap₂ (λ (x y : List ℕ). x ++ y) (append-nil (take at l)) (ap (λ (k : ℕ). drop k l) (add-zero at)) ∙ take-append-drop at l)

-- t put behind s, over what stood there: no more than t has
put_over : (l : List ℕ) (at : ℕ) (s x t : List ℕ) → length x ≤ length t → at + length s + length t ≤ length l
    → put (put l at (s ++ x)) (at + length s) t ≡ put l at (s ++ t)
put_over l at s x t few h =
    let p : List ℕ = take at l ++ s in
    let k : ℕ = length t - length x in
    let rest : List ℕ = drop (at + length (s ++ x)) l in
    let q : length p ≡ at + length s = length-append (take at l) s ∙ ap (λ (n : ℕ). n + length s) (length-take-le at l (omega arith)) in
    let m = length-append s x in
    let e : at + length s + length t ≡ length p + (length x + k) = omega arith in
    let f : at + length (s ++ x) + k ≡ at + length (s ++ t) = omega (arith, length-append s t) in
    let whole : take at l ++ (s ++ x) ++ rest ≡ p ++ (x ++ rest) =
    ap (λ (y : List ℕ). y ++ rest) (sym (append_assoc (take at l) s x)) ∙ append_assoc p x rest in
    let behind : drop (at + length s + length t) (take at l ++ (s ++ x) ++ rest) ≡ drop (at + length (s ++ t)) l =
    ap₂ (λ (n : ℕ) (y : List ℕ). drop n y) e whole
    ∙ drop-append-add p (x ++ rest) (length x + k)
    ∙ drop-append-add x rest k
    ∙ drop-drop k (at + length (s ++ x)) l
    ∙ ap (λ (n : ℕ). drop n l) f in
    ap₂ (λ (y z : List ℕ). y ++ t ++ z) (ap (take (at + length s)) whole ∙ take_at p (x ++ rest) (at + length s) q) behind
    ∙ ap (λ (y : List ℕ). y ++ drop (at + length (s ++ t)) l) (append_assoc (take at l) s t)

-- two runs of stores as one
sets_append : (l : List ℕ) (i : ℕ) (xs ys : List ℕ) → sets (sets l i xs) (i + length xs) ys ≡ sets l i (xs ++ ys)
sets_append l i [] ys = ap (λ (k : ℕ). sets l k ys) (add-zero i)
sets_append l i (x ∷ xs) ys =
    let e : i + suc (length xs) ≡ suc i + length xs = omega arith in
    ap (λ (k : ℕ). sets (sets (set l i x) (suc i) xs) k ys) e ∙ sets_append (set l i x) (suc i) xs ys
