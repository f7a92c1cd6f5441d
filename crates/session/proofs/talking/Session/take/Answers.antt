use native.Mathlib.Omega.{arith}
use Rattle.std.proofs.lemmas.Result.{MatchResult-from_err}
use Rattle.session.proofs.Reading.{goes_at, breaks_at}
use Rattle.session.proofs.talking.Session.take.Goals as goal

pub returns-in_err-byte-clause-err : goal.returns-in_err-byte-clause-err
returns-in_err-byte-clause-err g c =
    let l = c.loop-b in
    MatchResult-from_err c.from_residual.result _ _ c.from_residual.ensures.0 (λ e.
    breaks_at (g.W.Write.contents c.args.writer.now) (g.W.Write.contents l.writer) (g.W.Write.contents c.byte.new.writer) c.args.piece.now l.b-index
    (omega arith) l.invariant c.in_err-byte.ensures.err)

pub loop-b-preserved : goal.loop-b-preserved
loop-b-preserved g c =
    let l = c.loop-b in
    goes_at (g.W.Write.contents c.args.writer.now) (g.W.Write.contents l.writer) (g.W.Write.contents c.byte.new.writer) c.args.piece.now l.b-index
    (omega arith) l.invariant c.in_ok-byte.ensures.ok
