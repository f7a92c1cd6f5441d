-- A record compared set by set, each within a whole word.
-- Assumes nothing.
use Rattle.std.proofs.Common.{◌≡◌, ℕ, ◌+◌, ◌*◌, ◌/◌, ◌%◌, ◌^◌, ◌<◌, ◌≤◌, Bool, ◌&&◌, List, [], ◌∷◌, ◌++◌, eqb, length, get_or, take, drop, sym, ap, ap₂, ◌∙◌, append-nil, arith, length-drop, length-take-le, take-add, take-take, take_all, drop-drop, take-append-drop}
use Rattle.std.proofs.Math.Bool.{and-true}
use Rattle.std.specs.Int.{w64, to_le_bytes}
use Rattle.std.proofs.lemmas.Grind.{flat_map-append}
use Rattle.std.proofs.lemmas.List.{take_more}
use Rattle.model.specs.Sets.{concat_map, equal_lists}
use Rattle.model.specs.Image.{bytes}
use Rattle.model.proofs.Fields.{length_bytes}
use Rattle.model.proofs.Sizes.{length_concat_map}
use Rattle.image.proofs.Words.{low_same, high_same, equal_append}

-- the priority alone
pub none_compared : (sec : List ℕ) (p : ℕ) → length sec ≡ 49 → eqb (get_or sec 0 0) p ≡ equal_lists (take 1 sec) (p ∷ [])
none_compared [] p h = absurd (omega arith)
none_compared (x ∷ sec) p h = sym (and-true (eqb x p))

module _ (sec sets : List ℕ) (p last i : ℕ) (long : length sec ≡ 49) (seven : length sets ≡ 7)
    (same : Bool) (front : same ≡ equal_lists (take (6 * i + 1) sec) (p ∷ concat_map (bytes 6) (take i sets))) where
  abbrev at : ℕ
  at = 6 * i + 1

  abbrev w : ℕ
  w = get_or sets i 0

  length_front : i ≤ 7 → length (take at sec) ≡ length (p ∷ concat_map (bytes 6) (take i sets))
  length_front few =
      let n = length_concat_map (bytes 6) 6 (length_bytes 6) (take i sets) in
      length-take-le at sec (omega arith) ∙ omega (arith, n, length-take-le i sets (omega (arith, seven)))

  -- one set more is compared
  pub set_compared : i < 7 → (x : ℕ) {b : Bool} → to_le_bytes w64 x ≡ take 8 (drop at sec) → b ≡ eqb (x % 281474976710656) (w % 281474976710656)
      → (same && b) ≡ equal_lists (take (6 * (i + 1) + 1) sec) (p ∷ concat_map (bytes 6) (take (i + 1) sets))
  set_compared inside x {b} x_is b_is =
      let e : at + 6 ≡ 6 * (i + 1) + 1 = omega arith in
      let here : b ≡ equal_lists (take 6 (drop at sec)) (bytes 6 w ++ []) =
      b_is
      ∙ low_same x w
      ∙ ap₂ equal_lists (ap (take 6) x_is ∙ take-take 6 8 (drop at sec) (omega arith)) (sym (append-nil (bytes 6 w))) in
      ap₂ (λ (x y : Bool). x && y) front here
      ∙ sym (equal_append (take at sec) (take 6 (drop at sec)) (p ∷ concat_map (bytes 6) (take i sets)) (bytes 6 w ++ []) (length_front (omega arith)))
      ∙ ap₂ equal_lists (sym (take-add at 6 sec) ∙ ap (λ (m : ℕ). take m sec) e)
      (ap (λ (x : List ℕ). p ∷ x) (sym (flat_map-append (bytes 6) (take i sets) (w ∷ [])) ∙ ap (concat_map (bytes 6)) (sym (take_more sets i 0 (omega (arith, seven))))))

  -- and the last one
  pub last_compared : i ≡ 7 → {all : List ℕ} → sets ++ (last ∷ []) ≡ all → (x : ℕ) → to_le_bytes w64 x ≡ take 8 (drop 41 sec) → x < 2 ^ 64
      → (same && eqb (x / 65536) (last % 281474976710656)) ≡ equal_lists sec (p ∷ concat_map (bytes 6) all)
  last_compared i_is {all} all_is x x_is fits =
      let a : at ≡ 43 = omega (arith, i_is) in
      let end : drop 2 (to_le_bytes w64 x) ≡ drop at sec = ap (drop 2) (x_is ∙ take_all 8 (drop 41 sec) (omega (arith, length-drop 41 sec))) ∙ drop-drop 2 41 sec ∙ ap (λ (k : ℕ). drop k sec) (sym a) in
      ap₂ (λ (x y : Bool). x && y) front
      (high_same x last fits ∙ ap₂ equal_lists end (sym (append-nil (bytes 6 last))))
      ∙ sym (equal_append (take at sec) (drop at sec) (p ∷ concat_map (bytes 6) (take i sets)) (bytes 6 last ++ []) (length_front (omega (arith, i_is))))
      ∙ ap₂ equal_lists (take-append-drop at sec)
      (ap (λ (l : List ℕ). p ∷ (concat_map (bytes 6) l ++ (bytes 6 last ++ []))) (take_all i sets (omega (arith, seven, i_is)))
      ∙ ap (λ (l : List ℕ). p ∷ l) (sym (flat_map-append (bytes 6) sets (last ∷ [])) ∙ ap (concat_map (bytes 6)) all_is))
