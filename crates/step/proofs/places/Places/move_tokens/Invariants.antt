-- The tokens have moved on the places of the contexts that are not left, and on no other.
use mathlib.Core.Path.{◌≡◌}
use Rattle.sets.specs.Sets.{members}
use Rattle.step.specs.Places.{marking_of, tokens_on, with_tokens, SameLimits}
use Rattle.step.proofs.Moving.{Moved}
use Rattle.step.proofs.places.Places.move_tokens.Given as goal

abbrev pub invariant-loop-c : goal.invariant-loop-c
invariant-loop-c l =
    record {
      others : marking_of l.self ≡ with_tokens l.fn.kind (tokens_on l.fn.kind (marking_of l.self)) (marking_of l.fn.self);
      limits : SameLimits l.fn.self l.self;
      moved : Moved l.fn.self.contexts (members l.fn.takes) (members l.fn.gives) (tokens_on l.fn.kind (marking_of l.fn.self)) (tokens_on l.fn.kind (marking_of l.self)) l.c-iterator;
    }
