-- Sets written one behind the other, each as a whole word, whose last two bytes the next one covers.
-- Assumes nothing.
use Rattle.std.proofs.Common.{◌≡◌, ℕ, ◌+◌, ◌-◌, ◌*◌, ◌<◌, ◌≤◌, List, [], ◌∷◌, ◌++◌, length, get_or, set, take, drop, refl, sym, ap, ap₂, ◌∙◌, append-nil, arith, length-drop, length-take-le, take-add, take_at, drop_at, take_all, drop_of_length-le}
use Rattle.std.specs.Int.{w64, to_le_bytes}
use Rattle.std.proofs.lemmas.Grind.{flat_map-append}
use Rattle.std.proofs.lemmas.List.{take_more}
use borrow.Rule.Slice.PartMut.{put_mid}
use Rattle.model.specs.Sets.{concat_map}
use Rattle.model.specs.Image.{bytes}
use Rattle.image.proofs.Words.{le_bytes_are}

-- the priority alone
pub set_none : (out : List ℕ) (p : ℕ) → length out ≡ 49 → take 1 (set out 0 p) ≡ p ∷ []
set_none [] p h = absurd (omega arith)
set_none (x ∷ out) p h = refl

-- one set more is written
pub set_more : (out ys sets : List ℕ) (p i : ℕ) → length out ≡ 49 → 6 * i + 9 ≤ 49 → i < length sets → ys ≡ to_le_bytes w64 (get_or sets i 0)
    → take (6 * i + 1) out ≡ p ∷ concat_map (bytes 6) (take i sets)
    → take (6 * (i + 1) + 1) (put_mid (6 * i + 1) (6 * i + 9 - (6 * i + 1)) out ys) ≡ p ∷ concat_map (bytes 6) (take (i + 1) sets)
set_more out ys sets p i long room inside ys_are front =
    let at : ℕ = 6 * i + 1 in
    let k : ℕ = 6 * i + 9 - (6 * i + 1) in
    let w : ℕ = get_or sets i 0 in
    let now : List ℕ = put_mid at k out ys in
    let n = length-take-le at out (omega arith) in
    let e : 6 * (i + 1) + 1 ≡ at + 6 = omega arith in
    let rest : List ℕ = drop k (drop at out) in
    ap (λ (m : ℕ). take m now) e
    ∙ take-add at 6 now
    ∙ ap₂ (λ (x y : List ℕ). x ++ take 6 y) (take_at (take at out) (ys ++ rest) at n) (drop_at (take at out) (ys ++ rest) at n)
    ∙ ap₂ (λ (x y : List ℕ). x ++ take 6 (y ++ rest)) front (ys_are ∙ le_bytes_are w)
    ∙ ap (λ (x : List ℕ). p ∷ (concat_map (bytes 6) (take i sets) ++ x)) (sym (append-nil (bytes 6 w)))
    ∙ ap (λ (x : List ℕ). p ∷ x) (sym (flat_map-append (bytes 6) (take i sets) (w ∷ [])) ∙ ap (concat_map (bytes 6)) (sym (take_more sets i 0 inside)))

-- and the last one, in six bytes
pub set_last : (out ys sets all : List ℕ) (p last i : ℕ) → length out ≡ 49 → length sets ≡ 7 → i ≡ 7 → ys ≡ take 6 (to_le_bytes w64 last)
    → take (6 * i + 1) out ≡ p ∷ concat_map (bytes 6) (take i sets) → sets ++ (last ∷ []) ≡ all
    → put_mid 43 (length out - 43) out ys ≡ p ∷ concat_map (bytes 6) all
set_last out ys sets all p last i long seven i_is ys_are front all_is =
    let f : take 43 out ≡ p ∷ concat_map (bytes 6) sets =
    ap (λ (k : ℕ). take (6 * k + 1) out) (sym i_is) ∙ front ∙ ap (λ (l : List ℕ). p ∷ concat_map (bytes 6) l) (take_all i sets (omega arith)) in
    let none : drop (length out - 43) (drop 43 out) ≡ [] = drop_of_length-le (drop 43 out) (omega (arith, length-drop 43 out)) in
    ap₂ (λ (x y : List ℕ). x ++ (ys ++ y)) f none
    ∙ ap (λ (y : List ℕ). p ∷ (concat_map (bytes 6) sets ++ (y ++ []))) (ys_are ∙ ap (take 6) (le_bytes_are last))
    ∙ ap (λ (x : List ℕ). p ∷ x) (sym (flat_map-append (bytes 6) sets (last ∷ [])) ∙ ap (concat_map (bytes 6)) all_is)
