use Rattle.session.proofs.Laws.{replied}
use Rattle.session.proofs.talking.reply.Goals as goal

pub returns : goal.returns
returns c =
    rw c.in-Some.is
    (replied c.in-Some.call c.args.engine.now c.perform-answer.new.self c.perform-answer.result c.counts.result.now c.of_answer.result c.of_answer.ensures
    c.perform-answer.ensures c.counts.ensures.counts)
