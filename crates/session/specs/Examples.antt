-- Worked examples: lines that say a call, and lines at the edges of what is one. They are proved by computing.
-- Assumes nothing.
use Prim.Native.String.{String}
use Rattle.std.specs.Prelude.{◌≡◌, List, [], ◌∷◌, Some, None}
use Rattle.model.specs.declared.Call.{Call}
use Rattle.model.specs.declared.Call.TheVariants.{Activate, Deactivate, Undo, Settle}
use Rattle.session.specs.Ascii.{ascii}
use Rattle.session.specs.Calls.{said}

pub data Example : Type 0 where
  -- a line, and the call that it says
  says : String → Call → Example
  -- a line that says none
  no_call : String → Example

abbrev pub Correct : Example → Type 0
Correct (says line k) = said (ascii line) ≡ Some k
Correct (no_call line) = said (ascii line) ≡ None

unfoldable pub spoken : List Example
spoken =
    says "+0" (Activate 0)
    ∷ says "+10" (Activate 10)
    ∷ says "+255" (Activate 255)
    ∷ says "-7" (Deactivate 7)
    ∷ says "u" Undo
    ∷ says "s" Settle
    ∷ []

unfoldable pub unspoken : List Example
unspoken =
    no_call ""
    ∷ no_call "+"
    ∷ no_call "-"
    ∷ no_call "+07"
    ∷ no_call "+00"
    ∷ no_call "+256"
    ∷ no_call "+1000"
    ∷ no_call "+3 "
    ∷ no_call " +3"
    ∷ no_call "+3\r"
    ∷ no_call "--3"
    ∷ no_call "+-3"
    ∷ no_call "3"
    ∷ no_call "U"
    ∷ no_call "us"
    ∷ no_call "+3a"
    ∷ no_call "?"
    ∷ []
