-- How a composed net is read as the net of the model. It has no capacities: they are given with it.
-- Assumes nothing.
use Rattle.std.specs.Prelude.{ℕ, List, take}
use Rattle.model.specs.Relations as model
use Rattle.model.specs.declared.Relation.{Relation}
use Rattle.model.specs.Transitions.{Transition, transitions_of}
use Rattle.transitions.specs.declared.Arcs.{Arcs}
use Rattle.net.specs.Tables
use Rattle.net.specs.Tables.{row}
use Rattle.net.specs.declared.table.Table.{Table}
use Rattle.net.specs.declared.net.Net.{Net}

-- how many contexts it has
abbrev pub contexts_of : Net → ℕ
contexts_of net = net.contexts

-- its relations
abbrev pub rels_of : Net → List Relation
rels_of net = Tables.relations_in net.relation_count net.relations

-- its transitions, in arrays
abbrev pub table_of : Net → Table
table_of net = net.table

-- the net of its contexts, with the first of these capacities, and its relations
abbrev pub net_with : Net → (capacities : List ℕ) → model.Net
net_with net capacities = record { caps = take (contexts_of net) capacities; rels = rels_of net }

-- its transitions, whatever the capacities
abbrev pub transitions_in : Net → List Transition
transitions_in net = transitions_of (contexts_of net) (rels_of net)

-- the sets of transition i
abbrev pub arcs_of : Net → ℕ → Arcs
arcs_of net i = row net.table i
