-- How a net's transitions stand in arrays: entry i of each is a word that holds a set of transition i, or its priority.
-- Assumes nothing.
use Rattle.std.specs.Prelude.{ℕ, ◌<◌, ◌≡◌, List, [], ◌∷◌, ◌++◌, length, get_or, take}
use Rattle.model.specs.Sets.{empty_set}
use Rattle.model.specs.declared.Relation.{Relation}
use Rattle.model.specs.Transitions.{Transition, activates, transitions_of}
use Rattle.relations.specs.Reading.{relations_of}
use Rattle.transitions.specs.Arcs.{Holds}
use Rattle.transitions.specs.declared.Arcs.{Arcs}
use Rattle.transitions.specs.declared.priority.Priority.TheVariants.{Late}
use Rattle.net.specs.declared.table.Table.{Table}
use Rattle.net.specs.declared.table.Row.{Row}

-- the first r relations, of three bytes each
abbrev pub relations_in : ℕ → List (List ℕ) → List Relation
relations_in r relations = relations_of (take r relations)

-- entry i of each array
abbrev pub row : Table → ℕ → Arcs
row table i =
    record {
      priority = get_or table.priority i Late;
      takes_context = get_or table.takes_context i 0;
      takes_pr = get_or table.takes_pr i 0;
      takes_not = get_or table.takes_not i 0;
      gives_context = get_or table.gives_context i 0;
      gives_pr = get_or table.gives_pr i 0;
      gives_not = get_or table.gives_not i 0;
      inhib_context = get_or table.inhib_context i 0;
      inhib_pr = get_or table.inhib_pr i 0;
    }

-- the transition that is looked at
abbrev pub arcs_in : Row → Arcs
arcs_in r = row r.table.now r.number

-- a transition without arcs, for the numbers that a net does not have
abbrev pub blank : Transition
blank =
    record {
      role = activates;
      priority = 0;
      takes_context = empty_set;
      takes_pr = empty_set;
      takes_not = empty_set;
      gives_context = empty_set;
      gives_pr = empty_set;
      gives_not = empty_set;
      inhib_context = empty_set;
      inhib_pr = empty_set;
    }

-- the arrays hold these transitions, from entry 0 on, and no others
pub record Stores (table : Table) (ts : List Transition) : Type 0 where
  pub count : table.count ≡ length ts
  pub at : (i : ℕ) → i < table.count → Holds (row table i) (get_or ts i blank)

-- these are all transitions of n contexts and of these relations
abbrev pub StoresAll : Table → ℕ → List Relation → Type 0
StoresAll table n rels = Stores table (transitions_of n rels)

-- whatever transitions the old arrays hold, the new ones hold them and behind them each that these sets hold
abbrev pub Joins : (old : Table) → Arcs → (new : Table) → Type 0
Joins old arcs new = (ts : List Transition) (t : Transition) → Stores old ts → Holds arcs t → Stores new (ts ++ t ∷ [])
