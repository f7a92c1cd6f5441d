-- A failed read takes nothing, and the piece keeps its length.
use Rattle.std.specs.Io.KnownBytes.{Keeps}
use Rattle.session.proofs.talking.read_some.Given as goal

abbrev pub invariant-loop : goal.invariant-loop
invariant-loop g l = Keeps (g.R.Read.remaining l.initial.reader) (g.R.Read.remaining l.reader)
