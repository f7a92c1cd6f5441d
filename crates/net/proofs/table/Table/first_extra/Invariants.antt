-- The loop knows the first ready transition that it has passed, that none of these is of priority 2, and that it goes no further than the table.
use Rattle.std.proofs.Common.{◌*◌, ◌+◌, ◌-◌, ◌≤◌, None}
use Rattle.net.specs.Walks.{ready_row, urgent_row, Finds}
use Rattle.net.proofs.table.Table.first_extra.Given as goal

abbrev pub invariant-loop-i : goal.invariant-loop-i
invariant-loop-i l =
    record {
      inside : l.i ≤ 2 * l.contexts + (l.self.count - 2 * l.contexts);
      first : Finds l.late (2 * l.contexts) l.i (ready_row l.self l.marked l.spare);
      calm : Finds None (2 * l.contexts) l.i (urgent_row l.self l.marked l.spare);
    }
