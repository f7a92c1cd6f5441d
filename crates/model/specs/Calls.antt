-- Calls as bytes.
-- Assumes nothing.
use Rattle.std.specs.Prelude.{ℕ, ◌+◌, ◌*◌, ◌≡◌, Bool, cond, List, eqb, ltb, get_or, Option, None, Some, Result, MatchResult}
use Rattle.model.specs.declared.Call.{Call}
use Rattle.model.specs.declared.Call.TheVariants.{Activate, Deactivate, Undo, Settle}
use Rattle.model.specs.declared.calls.UnknownCall.{UnknownCall}

-- A call is three bytes: what it is, and a context number, its low byte first, which undo and settling do not use.
abbrev pub call_in : ℕ → ℕ → ℕ → Call
call_in k low high =
    cond (eqb k 0) (Activate (low + 256 * high)) (cond (eqb k 1) (Deactivate (low + 256 * high)) (cond (eqb k 2) Undo Settle))

-- the call in three bytes, and none where the first byte is no call
abbrev pub is_unknown : List ℕ → Bool
is_unknown b = ltb 3 (get_or b 0 0)

abbrev pub call_of_bytes : List ℕ → Call
call_of_bytes b = call_in (get_or b 0 0) (get_or b 1 0) (get_or b 2 0)

abbrev pub call_from : List ℕ → Option Call
call_from b = cond (is_unknown b) None (Some (call_of_bytes b))

-- what three bytes come to as a call: it, or an error with the byte that is no call
abbrev pub ReadsCall : List ℕ → Result Call UnknownCall → Type 0
ReadsCall b result = MatchResult result (λ call. call_from b ≡ Some call) (λ e. (e.0 ≡ get_or b 0 0) × (call_from b ≡ None))
