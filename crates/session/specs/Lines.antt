-- The lines of an input.
-- Assumes nothing.
use Rattle.std.specs.Prelude.{ℕ, List, [], ◌∷◌, ◌++◌, if◌then◌else◌, ◌==◌}
use Rattle.session.specs.Answers.{line_end}

-- the lines that have ended, each without its line end; line is what was read of the first
abbrev pub whole_lines : List ℕ → List ℕ → List (List ℕ)
whole_lines line [] = []
whole_lines line (b ∷ bs) = if b == line_end then line ∷ whole_lines [] bs else whole_lines (line ++ b ∷ []) bs

-- the bytes behind the last line end
abbrev pub last_line : List ℕ → List ℕ → List ℕ
last_line line [] = line
last_line line (b ∷ bs) = if b == line_end then last_line [] bs else last_line (line ++ b ∷ []) bs

-- a last line that lacks its line end counts too
abbrev pub with_last : List (List ℕ) → List ℕ → List (List ℕ)
with_last lines [] = lines
with_last lines (b ∷ bs) = lines ++ (b ∷ bs) ∷ []

-- all lines of an input
abbrev pub lines_of : List ℕ → List (List ℕ)
lines_of input = with_last (whole_lines [] input) (last_line [] input)
