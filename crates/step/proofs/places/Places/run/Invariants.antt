-- The firings made so far lead from the start to the marking of the places, in all nets that the arrays hold.
use Prim.Native.Nat.{◌-◌}
use Rattle.step.proofs.Running.{Going}
use Rattle.step.proofs.places.Places.run.Given as goal

abbrev pub invariant-loop-i : goal.invariant-loop-i
invariant-loop-i l = Going (λ whole. Unit {0}) l.net l.fn.self l.self l.firings l.forced

abbrev pub decreases-loop-i : goal.decreases-loop-i
decreases-loop-i l = 4096 - l.firings
