use Rattle.sets.proofs.Laws.{joined_holds}
use Rattle.model.specs.Relations.{related, suggests}
use Rattle.model.specs.Transitions.{asks_on, asks_off}
use Rattle.relations.specs.Links.{ends}
use Rattle.relations.specs.Lists.{net_of}
use Rattle.transitions.proofs.roles.asked_on.Goals as goal

pub returns : goal.returns
unfolding asks_on asks_off ends
returns c =
    let rels = (net_of c.args.list.now).rels in
    joined_holds 64 (asks_off rels c.args.context) (related rels suggests c.args.context) c.asked_off.ensures c.linked.ensures c.union.ensures
