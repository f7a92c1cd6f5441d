-- The flags of the contexts before c are made.
use Prim.Native.Nat.{◌+◌, ◌*◌, ◌/◌, ◌≤◌}
use mathlib.Core.Path.{◌≡◌}
use Rattle.step.specs.Spare.{below}
use Rattle.step.proofs.Gathering.{Made}
use Rattle.step.proofs.beginning.less.Given as goal

abbrev pub invariant-loop-c : goal.invariant-loop-c
invariant-loop-c l = record { few : l.n ≤ 48; end : l.c-end ≡ 8 * ((l.n + 7) / 8); made : Made (below l.high l.low) l.c l.flags }
