-- How a step ends.
-- Assumes nothing.
use Rattle.std.specs.Prelude.{ℕ, ◌<◌, ◌≡◌, List, length, get_or}
use Rattle.model.specs.Relations as model
use Rattle.model.specs.Relations.{size, capacity}
use Rattle.model.specs.Transitions.{transitions}
use Rattle.model.specs.Firing.{Marking, Outcome, forced_count, fire_until_quiet, step_limit}
use Rattle.model.specs.Claims.{Fits}
use Rattle.net.specs.Tables.{Stores}
use Rattle.net.specs.Nets.{contexts_of, table_of, net_with}
use Rattle.net.specs.declared.net.Net.{Net}
use Rattle.step.specs.Places.{marking_of}
use Rattle.step.specs.declared.places.Places.{Places}
use Rattle.step.specs.declared.places.Stepped.{Stepped}

-- The composed net, with these capacities, holds a net whose relations fit it: its contexts are as many, with the first of these capacities,
-- and its transitions stand in the arrays. Such is `net_with net capacities`, and any net of other relations that has the same transitions.
pub record Describes (whole : model.Net) (net : Net) (capacities : List ℕ) : Type 0 where
  pub contexts : size whole ≡ contexts_of net
  pub fits : Fits whole
  pub capacity_at : (c : ℕ) → c < contexts_of net → capacity whole c ≡ get_or capacities c 0
  pub table : Stores (table_of net) (transitions whole)

-- the step from the marking of these places, on the net with their capacities
abbrev pub step_from : Net → Places → Outcome
step_from net p = fire_until_quiet (net_with net p.capacities) step_limit (marking_of p)

-- r is the outcome o, with this marking
pub record Outcomes (r : Stepped) (m : Marking) (o : Outcome) : Type 0 where
  pub quiet : r.quiet ≡ o.quiet
  pub firings : r.firings ≡ length o.fired
  pub forced : r.forced ≡ forced_count o.fired
  pub marking : m ≡ o.marking
