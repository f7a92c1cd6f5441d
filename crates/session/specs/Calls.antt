-- The calls as text (docs/MACHINE.md, "bench-run"), and what a line says. A line's bytes are without its line end.
-- Assumes nothing.
use Rattle.std.specs.Prelude.{ℕ, ◌≤◌, Bool, List, [], ◌∷◌, ◌++◌, map, Option, Some, None}
use Prim.Native.Char.{code}
use Rattle.std.proofs.Math.Option.{none, some}
use Rattle.model.specs.Sets.{range, equal_lists}
use Rattle.model.specs.Firing.{first}
use Rattle.model.specs.declared.Call.{Call}
use Rattle.model.specs.declared.Call.TheVariants.{Activate, Deactivate, Undo, Settle}
use Rattle.session.specs.Decimals.{decimal}

-- the signs and letters of the calls
abbrev pub plus_sign : ℕ
plus_sign = code "+"

abbrev pub minus_sign : ℕ
minus_sign = code "-"

abbrev pub letter_u : ℕ
letter_u = code "u"

abbrev pub letter_s : ℕ
letter_s = code "s"

-- a call's text: an activation is + and its number, a deactivation - and its number, undo u, settling s
unfoldable pub call_text : Call → List ℕ
call_text (Activate c) = plus_sign ∷ decimal c
call_text (Deactivate c) = minus_sign ∷ decimal c
call_text Undo = letter_u ∷ []
call_text Settle = letter_s ∷ []

-- the largest context number that a line can name
abbrev pub largest_number : ℕ
largest_number = 255

-- a line can ask for the call: its number, where it has one, is at most 255
abbrev pub Askable : Call → Type 0
Askable (Activate c) = c ≤ largest_number
Askable (Deactivate c) = c ≤ largest_number
Askable Undo = Unit {0}
Askable Settle = Unit {0}

-- all calls that a line can ask for
unfoldable pub askable : List Call
askable = Undo ∷ Settle ∷ (map Activate (range 0 256) ++ map Deactivate (range 0 256))

-- the line is the call's text
abbrev pub is_text : List ℕ → Call → Bool
is_text line k = equal_lists line (call_text k)

-- what a line says: the call whose text it is, or no call
unfoldable pub said : List ℕ → Option Call
said line = elim (first (is_text line) askable) [ none ↦ None | some k ↦ Some k ]
