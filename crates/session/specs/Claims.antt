-- What the definitions of decimal texts and of what a line says come to.
-- Assumes nothing.
use Rattle.std.specs.Prelude.{ℕ, ◌≡◌, ◌↔◌, List, Some, None}
use Rattle.model.specs.declared.Call.{Call}
use Rattle.session.specs.Decimals.{decimal, value, Numeral}
use Rattle.session.specs.Calls.{call_text, Askable, said}
use Rattle.session.specs.Kept.{no_bytes, said_of, taken}

-- the decimal text of n is the one numeral with the value n
abbrev pub OneNumeral : Type 0
OneNumeral = (n : ℕ) (text : List ℕ) → (text ≡ decimal n) ↔ (Numeral text × (value text ≡ n))

-- a line says a call exactly where it is the text of that call, with a number up to 255
abbrev pub SaysItsText : Type 0
SaysItsText = (line : List ℕ) (k : Call) → (said line ≡ Some k) ↔ ((line ≡ call_text k) × Askable k)

-- and says no call exactly where it is the text of none
abbrev pub SaysNoOther : Type 0
SaysNoOther = (line : List ℕ) → (said line ≡ None) ↔ ((k : Call) → Askable k → line ≡ call_text k → ⊥)

-- what is kept of a line, taken in byte by byte, is enough to tell what it says
abbrev pub KeepsEnough : Type 0
KeepsEnough = (bytes : List ℕ) → said_of (taken no_bytes bytes) ≡ said bytes
