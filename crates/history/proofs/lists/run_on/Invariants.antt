-- What is still to be written is the rest of the report.
use mathlib.Core.Path.{◌≡◌}
use Rattle.std.proofs.Common.{[]}
use Rattle.engine.specs.View.{state}
use Rattle.history.proofs.Reporting.{Going}
use Rattle.history.proofs.lists.run_on.Given as goal

abbrev pub invariant-loop-bytes : goal.invariant-loop-bytes
invariant-loop-bytes l =
    (l.writer.out.ghost_name ≡ l.initial.writer.out.ghost_name)
    × Going l.calls l.fn.out (state l.fn.engine []) l.engine l.writer.out.now l.writer.written l.bytes-index
