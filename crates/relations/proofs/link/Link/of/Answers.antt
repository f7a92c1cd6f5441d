use Rattle.std.proofs.Common.{arith}
use Rattle.model.specs.Image.{relation_from}
use Rattle.model.proofs.Ready.{fitting}
use Rattle.relations.specs.Reading.{relation}
use Rattle.relations.proofs.Reading.{no_kind, known, decoded}
use Rattle.relations.proofs.link.Link.of.Goals as goal

-- no relation that fits has a byte that is no kind
pub unwrap-requires : goal.unwrap-requires
unwrap-requires c =
    known _ c.try_from.result c.try_from.ensures (no_kind 48 _ (fitting 48 (relation_from c.args.triple) c.requires))

pub invariant_of-result : goal.invariant_of-result
invariant_of-result c =
    let ends = (fitting 48 (relation_from c.args.triple) c.requires).ends in
    let left = ends.left in
    let right = ends.right in
    record { a_inside = omega (arith, c.from.ensures); b_inside = omega (arith, c.from-2.ensures) }

pub returns : goal.returns
returns c =
    let kind = decoded _ c.try_from.result c.unwrap.result c.try_from.ensures c.unwrap.ensures in
    λ j. relation (kind j) (c.from.ensures j) (c.from-2.ensures j)
