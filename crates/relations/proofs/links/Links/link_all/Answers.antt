use Rattle.std.proofs.Common.{◌||◌, List, [], ◌∷◌, ◌++◌, get_or, take, refl, sym, ap, ap₂, ◌∙◌, subst, Bool}
use Rattle.model.specs.Relations.{same, repeats, repeats_after}
use Rattle.model.specs.declared.Relation.{Relation}
use Rattle.model.specs.Sets.{any}
use Rattle.model.specs.Image.{relation_from}
use Rattle.relations.specs.Reading.{relations_of}
use Rattle.relations.specs.Links.{Linked}
use Rattle.relations.proofs.Reading.{fits_at, one_more}
use Rattle.relations.proofs.Repeats.{repeats_more}
use Rattle.relations.proofs.links.Links.link_all.Goals as goal

pub loop-triple-init : goal.loop-triple-init
unfolding repeats_after
loop-triple-init c =
    record { linked = c.requires.none; told = refl }

pub of-link-requires : goal.of-link-requires
of-link-requires c =
    fits_at 48 c.args.triples.now c.requires.fitting c.loop-triple.triple-index c.loop-triple-test.true

pub loop-triple-preserved : goal.loop-triple-preserved
loop-triple-preserved c =
    let triples = c.args.triples.now in
    let i = c.loop-triple.triple-index in
    let so_far = relations_of (take i triples) in
    let more = one_more i triples c.loop-triple-test.true in
    let here = c.linked-repeated.ensures _ c.loop-triple.invariant.linked ∙ ap (λ (r : Relation). any (same r) so_far) c.of-link.ensures in
    record {
      linked = subst (λ (l : List Relation). Linked l c.link.new.self.sets) (ap (λ (r : Relation). so_far ++ (r ∷ [])) c.of-link.ensures ∙ sym more) (c.link.ensures _ c.loop-triple.invariant.linked);
      told = ap₂ (λ (p q : Bool). p || q) c.loop-triple.invariant.told here ∙ sym (ap repeats more ∙ repeats_more so_far (relation_from (get_or triples i [])));
    }
