use Rattle.std.proofs.Common.{length}
use Rattle.relations.specs.Lists.{net_of}
use Rattle.relations.proofs.Reading.{fits_wider}
use Rattle.transitions.proofs.walk.Transitions.of.Goals as goal

pub invariant_of-result : goal.invariant_of-result
invariant_of-result c =
    let list = c.args.list.now in
    let fits = fits_wider (length list.capacities.now) 48 list.few_contexts (net_of list).rels list.fits in
    record { fits = rw c.relations.ensures.value fits }
