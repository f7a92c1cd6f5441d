use Rattle.std.proofs.Common.{◌≡◌, ◌*◌, ◌≤◌, length}
use Rattle.transitions.specs.Walk.{rest}
use Rattle.transitions.proofs.walk.TransitionsIterator.next.Given as goal

-- no own transition is left, and the relations that were passed have none
abbrev pub invariant-loop-triple : goal.invariant-loop-triple
invariant-loop-triple l =
    record {
      past : 2 * length l.self.list.now.capacities.now ≤ l.self.next;
      same : rest l.self ≡ rest l.fn.self;
    }

abbrev pub decreases-loop-triple : goal.decreases-loop-triple
decreases-loop-triple l = length l.self.relations.now
