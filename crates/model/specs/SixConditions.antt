-- docs/MACHINE.md, "The six conditions": the net of the worked examples. Contexts 0 to 5 are DUMPED (the one with capacity 1), RESET, POWERED, SOAK,
-- BATTERYOUT and LOGGING.
-- Assumes nothing.
use Rattle.std.specs.Prelude.{ℕ, [], ◌∷◌}
use Rattle.model.specs.Relations.{Net, excludes, causes, implies, requires}
use Rattle.model.specs.declared.Relation.{Relation}

abbrev pub relation : ℕ → ℕ → ℕ → Relation
relation k a b = record { kind = k; a = a; b = b }

unfoldable pub six_conditions : Net
six_conditions =
    record {
      caps = 1 ∷ 255 ∷ 255 ∷ 255 ∷ 255 ∷ 255 ∷ [];
      rels =
          relation requires 1 0
          ∷ relation implies 3 2
          ∷ relation excludes 2 4
          ∷ relation requires 4 0
          ∷ relation causes 3 5
          ∷ [];
    }
