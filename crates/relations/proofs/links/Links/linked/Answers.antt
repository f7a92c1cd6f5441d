-- A relation is the same as an earlier one where its second end is in the set of its kind and its first.
use Rattle.std.proofs.Common.{◌∙◌, arith}
use Rattle.sets.proofs.Laws.{contained}
use Rattle.relations.specs.Kinds.{kind_number}
use Rattle.relations.specs.Links.{ends}
use Rattle.relations.proofs.Linking.{kind_least, kind_most}
use Rattle.relations.proofs.Repeats.{same_linked}
use Rattle.relations.proofs.links.Links.linked.Goals as goal

pub returns : goal.returns
returns c rels has =
    let l = c.args.link in
    let k = kind_number l.kind in
    let inside = l.b_inside in
    c.contains.ensures
    ∙ contained 64 (ends rels k l.a) (c.linked_with.ensures ∙ has.at k l.a (kind_least l.kind) (kind_most l.kind) l.a_inside) l.b (omega (arith, inside))
    ∙ same_linked k l.a l.b rels
