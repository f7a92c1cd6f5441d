-- What was written is what the bytes read so far are told.
use Rattle.std.specs.Prelude.{[]}
use Rattle.engine.specs.View.{state}
use Rattle.session.specs.Sessions.{Stands}
use Rattle.session.proofs.Reading.{Talked}
use Rattle.session.proofs.talking.talk.Given as goal

abbrev pub invariant-loop : goal.invariant-loop
invariant-loop g l =
    Talked (g.R.Read.remaining l.initial.reader) (g.R.Read.remaining l.reader) (g.W.Write.contents l.initial.writer) (g.W.Write.contents l.writer)
    (state l.initial.session.engine []) (Stands l.session)
