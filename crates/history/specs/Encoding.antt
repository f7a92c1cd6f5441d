-- Calls, answers and totals as bytes.
-- Assumes nothing.
use Rattle.std.specs.Prelude.{ℕ, ◌%◌, Bool, false, ◌||◌, not, List, [], ◌∷◌, ◌++◌, eqb, ltb, length}
use Rattle.model.specs.Refusals.{verdict_number}
use Rattle.model.specs.declared.Tally.{Tally}
use Rattle.model.specs.Image.{bytes}
use Rattle.model.specs.declared.Call.{Call}
use Rattle.model.specs.Calls.{call_in}
use Rattle.model.specs.declared.Answer.{Answer}

-- the calls in a list of bytes; bytes behind the last whole call are none
unfoldable pub calls_in : List ℕ → List Call
calls_in [] = []
calls_in (k ∷ []) = []
calls_in (k ∷ low ∷ []) = []
calls_in (k ∷ low ∷ high ∷ bs) = call_in k low high ∷ calls_in bs

-- whether the first byte of some call is no call
unfoldable pub unknown_call : List ℕ → Bool
unknown_call [] = false
unknown_call (k ∷ []) = false
unknown_call (k ∷ low ∷ []) = false
unknown_call (k ∷ low ∷ high ∷ bs) = ltb 3 k || unknown_call bs

-- bytes that are no list of calls
abbrev pub no_calls : List ℕ → Bool
no_calls bs = not (eqb (length bs % 3) 0) || unknown_call bs

-- An answer is five bytes: 0 or the refusal, the firings, then the forced ones, two bytes each, low byte first.
abbrev pub answer_bytes : Answer → List ℕ
answer_bytes a = verdict_number a.verdict ∷ (bytes 2 a.firings ++ bytes 2 a.forced)

-- the totals in four bytes each
abbrev pub tally_bytes : Tally → List ℕ
tally_bytes t = bytes 4 t.granted ++ (bytes 4 t.refused ++ bytes 4 t.undone)
