-- Of the piece the bytes before b-index are taken in.
use Rattle.std.specs.Prelude.{take}
use Rattle.session.specs.Points.{Goes}
use Rattle.session.specs.Sessions.{Stands}
use Rattle.session.proofs.talking.Session.take.Given as goal

abbrev pub invariant-loop-b : goal.invariant-loop-b
invariant-loop-b g l =
    Goes (Stands l.initial.self) (Stands l.self) (take l.b-index l.piece) (g.W.Write.contents l.initial.writer) (g.W.Write.contents l.writer)
