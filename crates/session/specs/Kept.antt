-- What is kept of a line while its bytes come one at a time.
-- Assumes nothing.
use Rattle.std.specs.Prelude.{ℕ, ◌+◌, min, ◌≡◌, Bool, cond, List, [], ◌∷◌, ◌++◌, ltb, length, take, set, Option, None}
use Rattle.model.specs.declared.Call.{Call}
use Rattle.session.specs.Calls.{said}
use Rattle.session.specs.declared.line.Line.{Line}

-- what a line keeps of its bytes: the first four, and the length up to five, since no call's text is longer than four bytes
pub record Holds (line : Line) (bytes : List ℕ) : Type 0 where
  pub count : line.len ≡ min (length bytes) 5
  pub first : take line.len line.start ≡ take 4 bytes

-- a line that holds no byte
abbrev pub no_bytes : Line
no_bytes = record { start = 0 ∷ 0 ∷ 0 ∷ 0 ∷ []; len = 0 }

pub record Empty (r : Line) : Type 0 where
  pub is : r ≡ no_bytes
  pub holds : Holds r []

-- a line with one byte more, whatever it holds
abbrev pub extended : Line → ℕ → Line
extended line b =
    record {
      start = cond (ltb line.len 4) (set line.start line.len b) line.start;
      len = cond (ltb line.len 4) (line.len + 1) 5;
    }

-- the bytes of r are those of the line and b
pub record Pushed (line : Line) (b : ℕ) (r : Line) : Type 0 where
  pub is : r ≡ extended line b
  pub holds : (bytes : List ℕ) → Holds line bytes → Holds r (bytes ++ (b ∷ []))

-- what a line says, whatever it holds: nothing where it is longer than what is kept
abbrev pub said_of : Line → Option Call
said_of line = cond (ltb 4 line.len) None (said (take line.len line.start))

-- r is what a line of those bytes says
pub record Means (line : Line) (r : Option Call) : Type 0 where
  pub is : r ≡ said_of line
  pub says : (bytes : List ℕ) → Holds line bytes → r ≡ said bytes

-- r is whether the line has a byte
pub record Begun (line : Line) (r : Bool) : Type 0 where
  pub is : r ≡ ltb 0 line.len
  pub says : (bytes : List ℕ) → Holds line bytes → r ≡ ltb 0 (length bytes)

-- a line after more bytes, one at a time
abbrev pub taken : Line → List ℕ → Line
taken line [] = line
taken line (b ∷ bs) = taken (extended line b) bs
