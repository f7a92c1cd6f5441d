use borrow.Author.Rules.{rules}
use Rattle.session.proofs.Keeping.{means_over}
use Rattle.session.proofs.line.Line.call.Goals as goal

pub returns-in_err-get : goal.returns-in_err-get
returns-in_err-get c = rw c.from_residual.ensures (means_over c.args.self.now (search rules) c.in_err-get.ensures.lookup.0)
