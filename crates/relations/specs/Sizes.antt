-- How many contexts and relations there is room for.
-- Assumes nothing.
use Rattle.std.specs.Prelude.{ℕ, Bool, ◌||◌, ltb}
use Rattle.model.specs.Image.{edition_1}

-- more contexts or more relations than a net has room for
abbrev pub exceeds : (contexts relations : ℕ) → Bool
exceeds n r = ltb edition_1.max_contexts n || ltb edition_1.max_relations r
