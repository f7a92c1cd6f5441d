use Rattle.sets.proofs.Laws.{joined_holds}
use Rattle.model.specs.Relations.{related, causes, implies}
use Rattle.model.specs.Transitions.{asks_off}
use Rattle.relations.specs.Links.{ends}
use Rattle.relations.specs.Lists.{net_of}
use Rattle.transitions.proofs.roles.asked_off.Goals as goal

pub returns : goal.returns
unfolding asks_off ends
returns c =
    let rels = (net_of c.args.list.now).rels in
    joined_holds 64 (related rels causes c.args.context) (related rels implies c.args.context) c.linked.ensures c.linked-2.ensures c.union.ensures
