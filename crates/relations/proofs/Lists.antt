-- The verdict on capacities and relations, by the tests of their triples.
-- Assumes nothing.
use Rattle.std.proofs.Common.{◌≡◌, ℕ, ◌/◌, ◌%◌, ◌<◌, ◌≤◌, Bool, false, ◌||◌, not, eqb, List, [], ◌∷◌, length, ltb, ap, ◌∙◌, arith}
use borrow.Author.Tests.{eqb-false, ltb-false}
use Rattle.std.proofs.lemmas.List.{length-map}
use Rattle.std.specs.List.{list_any}
use Rattle.std.specs.Simd.{first_chunks}
use Rattle.model.specs.Sets.{any, Each, IsByte}
use Rattle.model.specs.Claims.{Valid}
use Rattle.model.specs.Refusals.{refuse, first_refusal}
use Rattle.model.specs.Relations.{has_zero, misfit, repeats}
use Rattle.model.specs.Image.{edition_1, bad_sizes, relation_from}
use Rattle.model.specs.declared.Relation.{Relation}
use Rattle.model.specs.declared.Refusal.TheVariants.{WrongSizes, ZeroCapacity, WrongRelation, RepeatedRelation}
use Rattle.model.specs.declared.Verdict.{Verdict}
use Rattle.relations.specs.Reading.{relations_of, misfits_triple}
use Rattle.relations.specs.Lists.{net_of, given_checks}
use Rattle.relations.specs.declared.list.CheckedList.{CheckedList}
use Rattle.model.proofs.Tests.{or_false_left, or_false_right}
use Rattle.relations.proofs.Reading.{relations_read, any_relations, fits_wider}

abbrev pub verdict_by : (sizes zero misfits repeated : Bool) → Verdict
verdict_by a b c d =
    first_refusal (refuse WrongSizes a ∷ refuse ZeroCapacity b ∷ refuse WrongRelation c ∷ refuse RepeatedRelation d ∷ [])

pub verdict_is : (caps bs : List ℕ) → first_refusal (given_checks caps bs)
    ≡ verdict_by (bad_sizes edition_1 (length caps) (length bs / 3) || not (eqb (length bs % 3) 0)) (has_zero caps)
    (list_any (misfits_triple (length caps)) (first_chunks 3 (length bs / 3) bs)) (repeats (relations_of (first_chunks 3 (length bs / 3) bs)))
verdict_is caps bs =
    ap (λ (rels : List Relation). verdict_by sizes (has_zero caps) (any (misfit (length caps)) rels) (repeats rels)) (relations_read (length bs / 3) bs)
    ∙ ap (λ (t : Bool). verdict_by sizes (has_zero caps) t (repeats (relations_of (first_chunks 3 (length bs / 3) bs)))) (any_relations (length caps) (first_chunks 3 (length bs / 3) bs))
  where
    sizes : Bool
    sizes = bad_sizes edition_1 (length caps) (length bs / 3) || not (eqb (length bs % 3) 0)

-- no relation of these bytes is a misfit
pub fitting : (n : ℕ) (triples : List (List ℕ)) → list_any (misfits_triple n) triples ≡ false → any (misfit n) (relations_of triples) ≡ false
fitting n triples e = any_relations n triples ∙ e

-- the sizes that edition 1 has
module _ (n r : ℕ) (e : bad_sizes edition_1 n r ≡ false) where
  front : (eqb n 0 || ltb 48 n) ≡ false
  unfolding bad_sizes
  front = or_false_left (eqb n 0 || ltb 48 n) (ltb 96 r) e

  pub some_context : 0 < n
  some_context =
      let positive = eqb-false n 0 (or_false_left (eqb n 0) (ltb 48 n) front) in
      omega (arith, positive)

  pub few_contexts : n ≤ 48
  few_contexts = ltb-false 48 n (or_false_right (eqb n 0) (ltb 48 n) front)

  pub few_relations : r ≤ 96
  unfolding bad_sizes
  few_relations = ltb-false 96 r (or_false_right (eqb n 0 || ltb 48 n) (ltb 96 r) e)

  -- a list that passed the checks so far fits 48 contexts
  pub fits_most : (rels : List Relation) → any (misfit n) rels ≡ false → any (misfit 48) rels ≡ false
  fits_most = fits_wider n 48 few_contexts

-- a checked list is one that edition 1 admits
pub valid : (list : CheckedList) → Each IsByte list.fitting.capacities.now → Valid edition_1 (net_of list.fitting)
valid list bytes =
    record {
      sizes = ap (bad_sizes edition_1 (length list.fitting.capacities.now)) (length-map list.fitting.relations.now relation_from) ∙ list.sizes;
      bytes = bytes;
      caps = list.no_zero;
      fits = list.fitting.fits;
      once = list.once;
    }
