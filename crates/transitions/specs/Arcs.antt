-- How the priority and the eight sets of one transition are read.
-- Assumes nothing.
use Rattle.std.specs.Prelude.{ℕ, List, Bool, cond, ◌&&◌, ◌≡◌, eqb}
use Rattle.model.specs.Sets.{Each, number}
use Rattle.model.specs.Relations.{Net}
use Rattle.model.specs.Transitions.{Transition, extra, is_forced, transitions}
use Rattle.model.specs.declared.Relation.{Relation}
use Rattle.relations.specs.declared.list.FittingList.{FittingList}
use Rattle.relations.specs.Lists.{net_of}
use Rattle.transitions.specs.declared.Arcs.{Arcs}
use Rattle.transitions.specs.declared.priority.Priority.{Priority}
use Rattle.transitions.specs.declared.priority.Priority.TheVariants.{Late, Urgent}

-- the number that a priority has in the machine
abbrev pub priority_number : Priority → ℕ
priority_number Late = 1
priority_number Urgent = 2

-- the priority with this number, 1 or 2: the machine has no other
abbrev pub priority_of : ℕ → Priority
priority_of number = cond (eqb number 2) Urgent Late

-- a transition, its priority and its sets as they are in the code
abbrev pub arcs_of : Transition → Arcs
arcs_of t =
    record {
      priority = priority_of t.priority;
      takes_context = number 64 t.takes_context;
      takes_pr = number 64 t.takes_pr;
      takes_not = number 64 t.takes_not;
      gives_context = number 64 t.gives_context;
      gives_pr = number 64 t.gives_pr;
      gives_not = number 64 t.gives_not;
      inhib_context = number 64 t.inhib_context;
      inhib_pr = number 64 t.inhib_pr;
    }

-- the priority and the sets are those of one transition
pub record Holds (a : Arcs) (t : Transition) : Type 0 where
  pub priority : priority_number a.priority ≡ t.priority
  pub takes_context : a.takes_context ≡ number 64 t.takes_context
  pub takes_pr : a.takes_pr ≡ number 64 t.takes_pr
  pub takes_not : a.takes_not ≡ number 64 t.takes_not
  pub gives_context : a.gives_context ≡ number 64 t.gives_context
  pub gives_pr : a.gives_pr ≡ number 64 t.gives_pr
  pub gives_not : a.gives_not ≡ number 64 t.gives_not
  pub inhib_context : a.inhib_context ≡ number 64 t.inhib_context
  pub inhib_pr : a.inhib_pr ≡ number 64 t.inhib_pr

-- it takes no token of a temporary place
unfoldable pub unasked : Arcs → Bool
unasked a = eqb a.takes_pr 0 && eqb a.takes_not 0

-- What that tells of a net's transitions: which are the forced ones. It holds where the net has at
-- most 64 contexts (proofs/Telling).
abbrev pub Tells : Net → Type 0
Tells net = Each (λ (t : Transition). (a : Arcs) → Holds a t → unasked a ≡ is_forced t) (transitions net)

-- the extra transition of a relation, in the net of a list
abbrev pub extra_of : FittingList → Relation → List Transition
extra_of list r = extra (net_of list).rels r
