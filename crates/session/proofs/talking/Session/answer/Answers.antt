use Rattle.std.specs.Prelude.{ℕ, List, take, OnErr}
use mathlib.Core.Path.{subst}
use Rattle.std.specs.Io.KnownBytes.{Appends}
use Rattle.std.proofs.lemmas.Result.{on_err_weaker}
use Rattle.session.proofs.Breaking.{line_breaks}
use Rattle.session.proofs.talking.Session.answer.Goals as goal

pub returns-clause-err : goal.returns-clause-err
returns-clause-err g c =
    let w0 = g.W.Write.contents c.args.writer.now in
    let w1 = g.W.Write.contents c.put.new.writer in
    on_err_weaker c.put.result
    (line_breaks c.args.self.now c.call.result c.reply-text.new.engine c.reply-text.result w0 w1 c.reply-text.ensures c.call.ensures.is)
    (subst (λ (l : List ℕ). OnErr c.put.result ((n : ℕ) × Appends w0 w1 (take n l))) c.as_bytes.ensures c.put.ensures.err)
