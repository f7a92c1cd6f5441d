use Rattle.std.proofs.Common.{ap, ◌∙◌}
use Rattle.model.proofs.Walks.{two_priorities}
use Rattle.relations.specs.Lists.{net_of}
use Rattle.transitions.specs.Walk.{rest}
use Rattle.transitions.proofs.Walks.{few_transitions}
use Rattle.net.proofs.Filling.{filling_start, filling_room, filling_next}
use Rattle.net.proofs.table.Table.fill.Goals as goal

pub loop-arcs-init : goal.loop-arcs-init
loop-arcs-init c =
    let e = c.into_iter-arcs-iterator.ensures.into_iter_gives in
    record {
      can_next = tt;
      is_finite = tt;
      filling = filling_start c.clear.ensures (ap rest e ∙ c.of-arcs-items.ensures.words) (two_priorities (net_of c.args.list.now));
    }

pub push-requires : goal.push-requires
push-requires c = filling_room c.loop-arcs.invariant.filling (few_transitions c.args.list.now) c.in-Some.ensures.steps

pub loop-arcs-preserved : goal.loop-arcs-preserved
loop-arcs-preserved c =
    record {
      can_next = tt;
      is_finite = tt;
      filling = filling_next c.loop-arcs.invariant.filling c.in-Some.ensures.steps c.push.ensures;
    }
