-- The least member that is left is the next.
use mathlib.Core.Path.{refl}
use Rattle.std.proofs.Common.{rules}
use Rattle.sets.proofs.Least.{none_64, fewer}
use Rattle.sets.proofs.iterating.MembersIterator.next.Goals as goal

pub returns-in_err-c-clause-steps : goal.returns-in_err-c-clause-steps
returns-in_err-c-clause-steps c =
    let none = none_64 c.args.self.now (search rules) in
    rw c.from_residual.ensures (none, refl)

pub returns-clause-goes : goal.returns-clause-goes
returns-clause-goes c =
    let next = c.in_ok-c.ensures in
    let less = fewer c.self.inside.left c.in_ok-c.c next.inside next.some.hit c.remove.new.self c.remove.ensures in
    rw (← c.self.view_is) record { on = λ f. (tt, f, less); keeps = tt; rests = λ f. tt }
