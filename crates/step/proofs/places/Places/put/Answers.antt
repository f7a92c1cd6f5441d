-- Where a token moves, the sets are renewed at its place.
use native.Mathlib.Omega.{arith}
use Rattle.std.proofs.Common.{rules}
use Rattle.step.proofs.Renewal.{count_shown, pr_shown, pr_not_shown, spare_shown}
use Rattle.step.proofs.places.Places.put.Goals as goal

pub invariant_of-self-clause-shows : goal.invariant_of-self-clause-shows
invariant_of-self-clause-shows c =
    let p = c.args.self.now in
    count_shown p.counts p.temporary p.marked p.shows p.few c.args.c c.args.tokens c.requires.inside (search rules) c.assign.ensures

pub invariant_of-self-clause-spare_is : goal.invariant_of-self-clause-spare_is
invariant_of-self-clause-spare_is c =
    let p = c.args.self.now in
    let inside = c.requires.inside in
    spare_shown p.contexts p.capacities p.counts c.args.c c.args.tokens inside (omega (arith, p.few, inside)) p.spare_is (rw c.from-capacity.ensures at c.assign-in-Context.ensures)

pub invariant_of-self-in-Pr-clause-shows : goal.invariant_of-self-in-Pr-clause-shows
invariant_of-self-in-Pr-clause-shows c =
    let p = c.args.self.now in
    pr_shown p.counts p.temporary p.marked p.shows p.few c.args.c c.args.tokens c.requires.inside (search rules) c.assign-in-Pr.ensures

pub invariant_of-self-in-PrNot-clause-shows : goal.invariant_of-self-in-PrNot-clause-shows
invariant_of-self-in-PrNot-clause-shows c =
    let p = c.args.self.now in
    pr_not_shown p.counts p.temporary p.marked p.shows p.few c.args.c c.args.tokens c.requires.inside (search rules) c.assign-in-PrNot.ensures
