-- Readiness by the marked places and the set of the contexts with room, and what a walk over the transitions finds.
-- Assumes nothing.
use Rattle.std.specs.Prelude.{ℕ, ◌*◌, ◌/◌, ◌<◌, ◌≤◌, Bool, true, false, ◌&&◌, ◌≡◌, ◌⊎◌, leb, length, get_or, Option, Some, None}
use Rattle.std.proofs.Math.Option.{none, some}
use Rattle.sets.specs.Sets.{members, upto, union, common, minus, within, apart}
use Rattle.model.specs.Sets.{Set, number}
use Rattle.model.specs.Relations as model
use Rattle.model.specs.Relations.{size}
use Rattle.model.specs.Transitions.{transitions}
use Rattle.model.specs.Firing.{Marking, below_capacity, next_of}
use Rattle.model.specs.Claims.{Fits}
use Rattle.net.specs.Tables.{row, blank, Stores}
use Rattle.net.specs.Markings.{Shows}
use Rattle.transitions.specs.Arcs.{priority_number}
use Rattle.transitions.specs.declared.Arcs.{Arcs}
use Rattle.net.specs.declared.marked.Marked.{Marked}
use Rattle.net.specs.declared.table.Table.{Table}

-- A transition's sets against the marked places. First the tests that fail most often: no marked context inhibits it, and the contexts
-- and Pr(¬c) that it takes are marked.
unfoldable pub passes_first : Arcs → Marked → Bool
passes_first a s =
    apart 64 (members a.inhib_context) (members s.context)
    && within 64 (members a.takes_context) (members s.context)
    && within 64 (members a.takes_not) (members s.pr_not)

-- Then the others: the Pr(c) that it takes are marked, none that is marked inhibits it, and the contexts that it gives without
-- taking them are below their capacity.
unfoldable pub passes_last : Arcs → Marked → (spare : ℕ) → Bool
passes_last a s spare =
    within 64 (members a.takes_pr) (members s.pr)
    && apart 64 (members a.inhib_pr) (members s.pr)
    && within 64 (minus (members a.gives_context) (members a.takes_context)) (members spare)

-- "ready", as the marked places and `spare`, the set of the contexts below their capacity, tell it
unfoldable pub passes : Arcs → Marked → (spare : ℕ) → Bool
passes a s spare = passes_first a s && passes_last a s spare

-- the same of transition i of the arrays
unfoldable pub ready_row : Table → Marked → (spare : ℕ) → ℕ → Bool
ready_row table s spare i = passes (row table i) s spare

-- transition i is ready and has priority 2, the highest
abbrev pub urgent_row : Table → Marked → (spare : ℕ) → ℕ → Bool
urgent_row table s spare i = ready_row table s spare i && leb 2 (priority_number (row table i).priority)

-- The contexts whose own transitions may be ready: c has a token on Pr(c) and stands below its capacity, or has one on Pr(¬c) and is active.
unfoldable pub movable : Marked → (spare : ℕ) → Set
movable s spare = union (common (members s.pr) (members spare)) (common (members s.pr_not) (members s.context))

-- transition i is ready, and the context whose number is half of i, rounded down, is one of those
abbrev pub own_at : Table → Marked → (spare : ℕ) → ℕ → Bool
own_at table s spare i = movable s spare (i / 2) && ready_row table s spare i

-- the lowest number from a on, below e, that passes the test; or that there is none
unfoldable pub Finds : Option ℕ → ℕ → ℕ → (ℕ → Bool) → Type 0
Finds (Some i) a e f = (a ≤ i) × (i < e) × (f i ≡ true) × ((j : ℕ) → a ≤ j → j < i → f j ≡ false)
Finds None a e f = (j : ℕ) → a ≤ j → j < e → f j ≡ false

-- the lowest number of an urgent transition, and else that of one that is ready; or that there is none of these
unfoldable pub Prefers : Option ℕ → ℕ → ℕ → (urgent ready : ℕ → Bool) → Type 0
Prefers (Some i) a e urgent ready = Finds (Some i) a e urgent ⊎ (Finds None a e urgent × Finds (Some i) a e ready)
Prefers None a e urgent ready = Finds None a e ready

-- the first ready one of the own transitions of n contexts
abbrev pub FindsOwn : (n : ℕ) → Table → Marked → (spare : ℕ) → Option ℕ → Type 0
FindsOwn n table s spare r = Finds r 0 (2 * n) (own_at table s spare)

-- of the others the first ready one of priority 2, or else the first ready one
abbrev pub PrefersUrgent : (n : ℕ) → Table → Marked → (spare : ℕ) → Option ℕ → Type 0
PrefersUrgent n table s spare r = Prefers r (2 * n) table.count (urgent_row table s spare) (ready_row table s spare)

-- the transition found stands in the arrays and is ready
unfoldable pub Passing : Option ℕ → Table → Marked → (spare : ℕ) → Type 0
Passing (Some i) table s spare = (i < 192) × (passes (row table i) s spare ≡ true)
Passing None table s spare = Unit {0}

-- the number found is that of the net's transition that fires next in this marking; nothing where none is enabled
unfoldable pub Fires : Option ℕ → model.Net → Marking → Type 0
Fires (Some i) net m = (i < length (transitions net)) × (next_of net m ≡ some (get_or (transitions net) i blank))
Fires None net m = next_of net m ≡ none

-- What a walk chooses, by a marking's sets and the set `spare` alone: what it finds can fire; and of every net of n contexts whose relations
-- fit it and whose transitions stand in the arrays, whatever its capacities, it finds the machine's next transition or none, where the sets are
-- those of the marking and `spare` is the set of the contexts below their capacity in it. Of a composed net such is `net_with net capacities`
-- (proofs/Nets).
pub record Chooses (n : ℕ) (table : Table) (s : Marked) (spare : ℕ) (r : Option ℕ) : Type 0 where
  pub passing : Passing r table s spare
  pub fires :
      (whole : model.Net) (m : Marking) → size whole ≡ n → Fits whole → Stores table (transitions whole)
      → Shows n m s → spare ≡ number 64 (upto n (below_capacity whole m)) → Fires r whole m
