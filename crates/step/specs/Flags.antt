-- Sets as an array of bytes tells them.
-- Assumes nothing.
use Rattle.std.specs.Prelude.{ℕ, ◌≤◌, List, ltb, get_or}
use Rattle.model.specs.Sets.{Set}

-- the contexts whose byte is not 0
abbrev pub flagged : List ℕ → Set
flagged l c = ltb 0 (get_or l c 0)

-- the bytes are 0 or 1
abbrev pub Flags : List ℕ → Type 0
Flags l = (c : ℕ) → get_or l c 0 ≤ 1
