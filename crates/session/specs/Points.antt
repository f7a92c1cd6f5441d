-- Where a session stands while its bytes come one at a time, and what they are told.
-- Assumes nothing.
use Rattle.std.specs.Prelude.{ℕ, List, [], ◌∷◌, ◌++◌, Option, take, if◌then◌else◌, ◌==◌, ltb}
use Rattle.std.specs.Io.KnownBytes.{Appends}
use Rattle.model.specs.Machine.{State}
use Rattle.session.specs.Answers.{line_end}
use Rattle.session.specs.Kept.{no_bytes, extended, said_of}
use Rattle.session.specs.Transcripts.{told, state_after}
use Rattle.session.specs.declared.line.Line.{Line}

-- the machine's state, and what is kept of the line that has not ended
pub record Point : Type 0 where
  pub machine : State
  pub line : Line

-- before any input
abbrev pub start : State → Point
start s = record { machine = s; line = no_bytes }

-- what the line is told where it ends here, and the point behind it
abbrev pub line_told : Point → List ℕ
line_told p = told p.machine (said_of p.line)

abbrev pub next_line : Point → Point
next_line p = record { machine = state_after p.machine (said_of p.line); line = no_bytes }

-- the same for one byte more, and for more bytes
abbrev pub byte_told : Point → ℕ → List ℕ
byte_told p b = if b == line_end then line_told p else []

abbrev pub byte_after : Point → ℕ → Point
byte_after p b = if b == line_end then next_line p else record { machine = p.machine; line = extended p.line b }

abbrev pub told_by : Point → List ℕ → List ℕ
told_by p [] = []
told_by p (b ∷ bs) = byte_told p b ++ told_by (byte_after p b) bs

abbrev pub point_after : Point → List ℕ → Point
point_after p [] = p
point_after p (b ∷ bs) = point_after (byte_after p b) bs

-- what the last line is told at the end of the input, and the point then: a line without bytes is none
abbrev pub last_told : Point → List ℕ
last_told p = if ltb 0 p.line.len then line_told p else []

abbrev pub last_after : Point → Point
last_after p = if ltb 0 p.line.len then next_line p else p

-- Over these bytes: the points at which one value stands, and those at which the next one does; and what was written in between.
pub record Goes (from to : Point → Type 0) (bytes : List ℕ) (w0 w1 : Option (List ℕ)) : Type 0 where
  pub stands : (p : Point) → from p → to (point_after p bytes)
  pub writes : (p : Point) → from p → Appends w0 w1 (told_by p bytes)

-- a front of what the bytes are told was written
abbrev pub Breaks : (Point → Type 0) → List ℕ → (w0 w1 : Option (List ℕ)) → Type 0
Breaks from bytes w0 w1 = (p : Point) → from p → (n : ℕ) × Appends w0 w1 (take n (told_by p bytes))

-- the same at the end of the input
pub record Ends (from : Point → Type 0) (to : State → Type 0) (w0 w1 : Option (List ℕ)) : Type 0 where
  pub shows : (p : Point) → from p → to (last_after p).machine
  pub writes : (p : Point) → from p → Appends w0 w1 (last_told p)

abbrev pub BreaksEnd : (Point → Type 0) → (w0 w1 : Option (List ℕ)) → Type 0
BreaksEnd from w0 w1 = (p : Point) → from p → (n : ℕ) × Appends w0 w1 (take n (last_told p))
