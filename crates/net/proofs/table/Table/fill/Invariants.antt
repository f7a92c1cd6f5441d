-- The table stores the transitions that have come, and the others are those to come.
use Rattle.model.specs.Transitions.{transitions}
use Rattle.relations.specs.Lists.{net_of}
use Rattle.transitions.specs.Walk.{rest}
use Rattle.net.proofs.Filling.{Filling}
use Rattle.net.proofs.table.Table.fill.Given as goal

abbrev pub invariant-loop-arcs : goal.invariant-loop-arcs
invariant-loop-arcs l =
    record {
      can_next : (goal.iterator-loop-arcs).can_next l.arcs-iterator;
      is_finite : (goal.iterator-loop-arcs).is_finite l.arcs-iterator;
      filling : Filling l.self (rest l.arcs-iterator) (transitions (net_of l.fn.list));
    }
