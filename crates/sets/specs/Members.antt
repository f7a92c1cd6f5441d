-- The members of a set, one after the other in rising order.
-- Assumes nothing.
use Rattle.std.specs.Prelude.{ℕ, ◌<◌, ◌≡◌, false, Option, Some, None}
use Rattle.model.specs.Sets.{number}
use Rattle.sets.specs.Sets.{members, remove, Least}

-- The next of the members that are left: the least, and it is left no longer; or none is left.
abbrev pub GivesNext : (before : ℕ) → Option ℕ → (after : ℕ) → Type 0
GivesNext before (Some c) after = (c < 64) × Least (members before) c × (after ≡ number 64 (remove c (members before)))
GivesNext before None after = ((j : ℕ) → members before j ≡ false) × (after ≡ before)
