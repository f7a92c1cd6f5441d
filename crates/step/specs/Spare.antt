-- The contexts below their capacity, as one set that the walk can be given.
-- Assumes nothing.
use Rattle.std.specs.Prelude.{ℕ, List, ltb, get_or}
use Rattle.sets.specs.Sets.{upto}
use Rattle.model.specs.Sets.{Set, number}

-- the contexts whose count is below the capacity that an array has for them
abbrev pub below : (capacities counts : List ℕ) → Set
below capacities counts c = ltb (get_or counts c 0) (get_or capacities c 0)

-- The word of these among n contexts: it holds c exactly where c is one of the n and its count is below its capacity (theorem spare_exact says
-- it context by context).
abbrev pub spare_word : (n : ℕ) (capacities counts : List ℕ) → ℕ
spare_word n capacities counts = number 64 (upto n (below capacities counts))
