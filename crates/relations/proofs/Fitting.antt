-- When capacities and relations are a list whose relations fit.
-- Assumes nothing.
use Rattle.std.proofs.Common.{◌≡◌, ℕ, ◌≤◌, Bool, true, false, ◌||◌, not, List, length, ap, ◌∙◌}
use borrow.Author.Tests.{ltb-false}
use lib.Dec.{ltb}
use Rattle.std.specs.List.{list_any}
use Rattle.std.proofs.Math.Bool.{or-true}
use Rattle.model.specs.Sets.{any}
use Rattle.model.specs.Relations.{misfit}
use Rattle.model.specs.declared.Relation.{Relation}
use Rattle.model.proofs.Tests.{or_false_left, or_false_right}
use Rattle.relations.specs.Reading.{relations_of, misfits_triple}
use Rattle.relations.specs.Sizes.{exceeds}
use Rattle.relations.specs.Lists.{is_fitting}
use Rattle.relations.proofs.Reading.{any_relations, fits_wider}

module _ (caps : List ℕ) (triples : List (List ℕ)) where
  pub too_many : exceeds (length caps) (length triples) ≡ true → is_fitting caps triples ≡ false
  too_many e = ap (λ (b : Bool). not (b || any (misfit (length caps)) (relations_of triples))) e

  pub misfitting : list_any (misfits_triple (length caps)) triples ≡ true → is_fitting caps triples ≡ false
  misfitting e =
      ap (λ (b : Bool). not (exceeds (length caps) (length triples) || b)) (any_relations (length caps) triples ∙ e)
      ∙ ap not (or-true (exceeds (length caps) (length triples)))

  pub fits : exceeds (length caps) (length triples) ≡ false → list_any (misfits_triple (length caps)) triples ≡ false → is_fitting caps triples ≡ true
  fits few e =
      ap (λ (b : Bool). not (b || any (misfit (length caps)) (relations_of triples))) few
      ∙ ap not (any_relations (length caps) triples ∙ e)

module _ (n r : ℕ) (few : exceeds n r ≡ false) where
  pub few_contexts : n ≤ 48
  few_contexts = ltb-false 48 n (or_false_left (ltb 48 n) (ltb 96 r) few)

  pub few_relations : r ≤ 96
  few_relations = ltb-false 96 r (or_false_right (ltb 48 n) (ltb 96 r) few)

  -- what fits so many contexts fits 48
  pub fits_most : (rels : List Relation) → any (misfit n) rels ≡ false → any (misfit 48) rels ≡ false
  fits_most = fits_wider n 48 few_contexts
