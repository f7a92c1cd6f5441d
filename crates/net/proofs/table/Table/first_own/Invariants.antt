-- Of the contexts that can move some are left, and no transition of the others can fire.
use Rattle.net.proofs.Finding.{Left}
use Rattle.net.proofs.table.Table.first_own.Given as goal

abbrev pub invariant-loop-c : goal.invariant-loop-c
invariant-loop-c l =
    record {
      can_next : (goal.iterator-loop-c).can_next l.c-iterator;
      is_finite : (goal.iterator-loop-c).is_finite l.c-iterator;
      left : Left l.contexts l.self l.marked l.spare l.c-iterator;
    }
