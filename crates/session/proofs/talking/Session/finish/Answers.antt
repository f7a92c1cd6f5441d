use borrow.Author.Rules.{rules}
use Rattle.std.proofs.lemmas.Result.{on_err_weaker}
use Rattle.session.proofs.Breaking.{last_breaks}
use Rattle.session.proofs.talking.Session.finish.Goals as goal

pub returns-clause-err : goal.returns-clause-err
returns-clause-err g c =
    on_err_weaker c.answer.result
    (last_breaks c.args.self.now (g.W.Write.contents c.args.writer.now) (g.W.Write.contents c.answer.new.writer) (search rules)) c.answer.ensures.err
