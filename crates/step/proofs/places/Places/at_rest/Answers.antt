use Rattle.step.proofs.Requests.{rests, rests_shown}
use Rattle.step.proofs.places.Places.at_rest.Goals as goal

pub invariant_of-result-clause-shows : goal.invariant_of-result-clause-shows
invariant_of-result-clause-shows c =
    rests_shown c.contexts-contexts.result c.args.counts.now c.active-context.ensures c.empty.ensures.word c.empty-2.ensures.word

pub returns-clause-marking : goal.returns-clause-marking
returns-clause-marking c =
    rests c.args.counts.now
