-- The bytes of a transition's record, by its priority and its sets as words.
-- Assumes nothing.
use Rattle.std.specs.Prelude.{ℕ, List, [], ◌∷◌}
use Rattle.model.specs.Sets.{concat_map}
use Rattle.model.specs.Image.{bytes}
use Rattle.transitions.specs.declared.Arcs.{Arcs}
use Rattle.transitions.specs.Arcs.{priority_number}

-- the words of a transition's sets, in the order of its record
abbrev pub sets_of : Arcs → List ℕ
sets_of a =
    a.takes_context
    ∷ a.takes_pr
    ∷ a.takes_not
    ∷ a.gives_context
    ∷ a.gives_pr
    ∷ a.gives_not
    ∷ a.inhib_context
    ∷ a.inhib_pr
    ∷ []

-- the record: the priority, then each set in six bytes
abbrev pub record_of : Arcs → List ℕ
record_of a = priority_number a.priority ∷ concat_map (bytes 6) (sets_of a)
