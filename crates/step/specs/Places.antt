-- The marking that a step's places hold, and what a firing does to it.
-- Assumes nothing.
use Rattle.std.specs.Prelude.{ℕ, ◌<◌, Bool, true, false, ◌&&◌, cond, ◌≡◌, List, eqb, get_or}
use Rattle.sets.specs.Sets.{members, upto}
use Rattle.model.specs.Sets.{Set, all_below}
use Rattle.model.specs.Transitions.{Transition, activates}
use Rattle.model.specs.Firing.{Marking, is_empty, tokens_after}
use Rattle.transitions.specs.Arcs.{priority_number}
use Rattle.transitions.specs.declared.Arcs.{Arcs}
use Rattle.net.specs.Markings.{marking, AtMost}
use Rattle.net.specs.Walks.{passes}
use Rattle.step.specs.declared.places.PlaceKind.{PlaceKind}
use Rattle.step.specs.declared.places.PlaceKind.TheVariants.{Context, Pr, PrNot}
use Rattle.step.specs.declared.places.Places.{Places}

-- the marking: the counts, and the tokens on the temporary places
abbrev pub marking_of : Places → Marking
marking_of p = marking p.counts p.temporary

-- the tokens on the places of one kind, and a marking with others there
abbrev pub tokens_on : PlaceKind → Marking → ℕ → ℕ
tokens_on Context m = m.count
tokens_on Pr m = m.pr
tokens_on PrNot m = m.pr_not

abbrev pub with_tokens : PlaceKind → (ℕ → ℕ) → Marking → Marking
with_tokens Context f m = record { count = f; pr = m.pr; pr_not = m.pr_not }
with_tokens Pr f m = record { count = m.count; pr = f; pr_not = m.pr_not }
with_tokens PrNot f m = record { count = m.count; pr = m.pr; pr_not = f }

-- x at c, and what f says elsewhere
abbrev pub put : ℕ → ℕ → (ℕ → ℕ) → ℕ → ℕ
put c x f j = cond (eqb j c) x (f j)

-- a marking with so many tokens on one place
abbrev pub put_at : PlaceKind → ℕ → (tokens : ℕ) → Marking → Marking
put_at k c tokens m = with_tokens k (put c tokens (tokens_on k m)) m

-- the most that the entry of a place can tell, of one byte or of two
abbrev pub width : PlaceKind → ℕ
width Context = 255
width Pr = 65535
width PrNot = 65535

-- what a place can hold: a context its capacity, a temporary place what its entry can tell
abbrev pub room_on : PlaceKind → (capacities : List ℕ) → ℕ → ℕ
room_on Context capacities c = get_or capacities c 0
room_on Pr capacities c = 65535
room_on PrNot capacities c = 65535

-- the tokens on the place of context c of one kind, and what it can hold
abbrev pub tokens_at : Places → PlaceKind → ℕ → ℕ
tokens_at p k c = tokens_on k (marking_of p) c

abbrev pub room_at : Places → PlaceKind → ℕ → ℕ
room_at p k c = room_on k p.capacities c

-- a marking after a firing with these sets on the places of one kind, among n contexts
abbrev pub moved_on : PlaceKind → (n takes gives : ℕ) → Marking → Marking
moved_on k n takes gives m = with_tokens k (tokens_after (upto n (members takes)) (upto n (members gives)) (tokens_on k m)) m

-- Where a place of one kind is taken it holds a token, and where one is given alone it has room.
pub record Movable (n : ℕ) (takes gives : Set) (room tokens : ℕ → ℕ) : Type 0 where
  pub token : (j : ℕ) → j < n → takes j ≡ true → 0 < tokens j
  pub space : (j : ℕ) → j < n → gives j ≡ true → takes j ≡ false → tokens j < room j

abbrev pub CanMove : Places → PlaceKind → (takes gives : ℕ) → Type 0
CanMove p k takes gives = Movable p.contexts (members takes) (members gives) (room_at p k) (tokens_at p k)

-- the contexts are so many, and have these capacities
pub record Limits (n : ℕ) (caps : List ℕ) (p : Places) : Type 0 where
  pub contexts : p.contexts ≡ n
  pub capacities : p.capacities ≡ caps

-- the contexts are as many, and have the same capacities
pub record SameLimits (p q : Places) : Type 0 where
  pub contexts : q.contexts ≡ p.contexts
  pub capacities : q.capacities ≡ p.capacities

-- the transition that the sets hold, of a net of n contexts. The role has no set, and no token moves by it.
unfoldable pub reading : ℕ → Arcs → Transition
reading n a =
    record {
      role = activates;
      priority = priority_number a.priority;
      takes_context = upto n (members a.takes_context);
      takes_pr = upto n (members a.takes_pr);
      takes_not = upto n (members a.takes_not);
      gives_context = upto n (members a.gives_context);
      gives_pr = upto n (members a.gives_pr);
      gives_not = upto n (members a.gives_not);
      inhib_context = upto n (members a.inhib_context);
      inhib_pr = upto n (members a.inhib_pr);
    }

-- what a firing asks: a transition that the sets and the set of the contexts below their capacity find ready, and temporary places far
-- from full
pub record Firable (p : Places) (a : Arcs) : Type 0 where
  pub ready : passes a p.marked p.spare ≡ true
  pub low : AtMost 4096 (marking_of p)

-- no temporary place of the first n contexts holds a token
abbrev pub cleared : ℕ → Marking → Bool
cleared n m = all_below n (λ c. is_empty m.pr c && is_empty m.pr_not c)
