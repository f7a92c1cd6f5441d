use Rattle.session.proofs.talking.Session.byte.Goals as goal

pub returns-then-b-eq10-clause-err : goal.returns-then-b-eq10-clause-err
returns-then-b-eq10-clause-err g c = rw c.if-b-eq10.true c.answer.ensures.err
