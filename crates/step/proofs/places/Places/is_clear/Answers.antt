use Rattle.std.proofs.Math.Bool.{true-and, false-and}
use lib.Dec.{eqb}
use Rattle.step.specs.Places.{marking_of}
use Rattle.step.proofs.Requests.{both_empty}
use Rattle.step.proofs.places.Places.is_clear.Goals as goal

pub returns-then-is_empty : goal.returns-then-is_empty
returns-then-is_empty c =
    let p = c.args.self.now in
    cc (both_empty p.contexts p.few (marking_of p) p.marked p.shows, true-and (eqb p.marked.pr_not 0))

pub returns-else-is_empty : goal.returns-else-is_empty
returns-else-is_empty c =
    let p = c.args.self.now in
    cc (both_empty p.contexts p.few (marking_of p) p.marked p.shows, false-and (eqb p.marked.pr_not 0))
