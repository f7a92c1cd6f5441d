-- The set of the first end takes the second; of an exclusion the set of the second takes the first too.
use Rattle.std.proofs.Common.{◌≡◌, ap, ◌∙◌, rules}
use Rattle.relations.specs.declared.kind.Kind.TheVariants.{Excludes}
use Rattle.relations.specs.Kinds.{kind_number}
use Rattle.model.specs.declared.Relation.{Relation}
use Rattle.relations.specs.Links.{ends, marked}
use Rattle.relations.proofs.Linking.{add, joined, linked_plain, linked_exclusion, kind_least, kind_most, kind_excludes}
use Rattle.relations.proofs.links.Links.link.Goals as goal

pub returns-then-eq : goal.returns-then-eq
returns-then-eq c rels has =
    let a = c.args.link in
    let k = kind_number a.kind in
    let least = kind_least a.kind in
    let most = kind_most a.kind in
    let same : a.kind ≡ Excludes = search rules in
    let back = c.mark-then-eq.ensures ∙ ap (λ (r : Relation). marked c.mark.new.self.sets r.kind r.a r.b) c.exchanged.ensures in
    linked_exclusion rels k a.a a.b (ap kind_number same)
    (joined (add k a.a a.b (ends rels)) k a.b a.a back least most a.b_inside (joined (ends rels) k a.a a.b c.mark.ensures least most a.a_inside has))

pub returns-else-eq : goal.returns-else-eq
returns-else-eq c rels has =
    let a = c.args.link in
    let k = kind_number a.kind in
    let other : a.kind ≡ Excludes → ⊥ = search rules in
    linked_plain rels k a.a a.b (λ e. other (kind_excludes a.kind e))
    (joined (ends rels) k a.a a.b c.mark.ensures (kind_least a.kind) (kind_most a.kind) a.a_inside has)
