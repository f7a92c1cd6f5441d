use Rattle.std.proofs.Common.{◌≡◌, ℕ, ◌+◌, ◌<◌, inl, inr, List, get_or, length, take, drop, length-drop, length-take-le, rules, arith, subst, sym, ◌∙◌}
use Rattle.std.proofs.lemmas.Bool.{cases_lt}
use Rattle.std.proofs.lemmas.List.{get_or-take, get_or-drop, get_or_past}
use Rattle.std.proofs.lemmas.Nat.{le_bytes_8}
use Rattle.image.proofs.section.word_at.Goals as goal

pub returns : goal.returns
returns c =
    let a = c.args in
    let word : List ℕ = take 8 (drop a.at a.bytes.now) in
    let eight : length word ≡ 8 = length-take-le 8 (drop a.at a.bytes.now) (omega (arith, length-drop a.at a.bytes.now, c.requires)) in
    let bytes : (i : ℕ) → get_or a.bytes.now i 0 < 256 = search rules in
    let known : (i : ℕ) → get_or word i 0 < 256 =
    λ i.
    elim (cases_lt i 8) [
      | inl h ↦ subst (λ (b : ℕ). b < 256) (sym (get_or-take 8 (drop a.at a.bytes.now) i 0 h ∙ get_or-drop a.at a.bytes.now i 0)) (bytes (a.at + i))
      | inr h ↦ subst (λ (b : ℕ). b < 256) (sym (get_or_past word i 0 (omega arith))) (omega arith)
    ] in
    le_bytes_8 word c.from_le_bytes.result eight known (search rules)
