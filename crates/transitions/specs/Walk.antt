-- A walk over the transitions of a net, by number.
-- Assumes nothing.
use Rattle.std.specs.Prelude.{Bool, not, get_or, ℕ, ◌/◌, ◌%◌, cond, List, ◌++◌, map, eqb, drop}
use Rattle.model.specs.Sets.{concat_map, range}
use Rattle.model.specs.Relations.{Net, size, excludes}
use Rattle.model.specs.declared.Relation.{Relation}
use Rattle.model.specs.Transitions.{Transition, act, deac, extra, context_transitions}
use Rattle.relations.specs.Reading.{relations_of}
use Rattle.relations.specs.Lists.{net_of}
use Rattle.transitions.specs.declared.Arcs.{Arcs}
use Rattle.transitions.specs.declared.walk.Transitions.{Transitions}
use Rattle.transitions.specs.Arcs.{arcs_of}

-- the transition with this number, where it is a context's own
abbrev pub own : List Relation → ℕ → Transition
own rels number = cond (eqb (number % 2) 0) (act rels (number / 2)) (deac rels (number / 2))

-- the own transitions of all contexts
abbrev pub own_transitions : Net → List Transition
own_transitions net = concat_map (context_transitions net.rels) (range 0 (size net))

-- the transitions still to come: own ones from the next number on, and the extra ones of the
-- relations that are left
abbrev pub to_come : Transitions → List Transition
to_come walk =
    drop walk.next (own_transitions (net_of walk.list.now))
    ++ concat_map (extra (net_of walk.list.now).rels) (relations_of walk.relations.now)

-- and these, as they are in the code
abbrev pub rest : Transitions → List Arcs
rest walk = map arcs_of (to_come walk)

-- the relation of three bytes has an extra transition, where it is one of a net: an exclusion has none
abbrev pub has_extra : List ℕ → Bool
has_extra triple = not (eqb (get_or triple 0 0) excludes)
