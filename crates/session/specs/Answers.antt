-- The lines that answer (docs/MACHINE.md, "bench-run").
-- Assumes nothing.
use Rattle.std.specs.Prelude.{ℕ, zero, suc, List, [], ◌∷◌, ◌++◌}
use Prim.Native.Char.{code}
use Rattle.model.specs.Sets.{range, concat_map}
use Rattle.model.specs.Refusals.{verdict_number}
use Rattle.model.specs.Machine.{Counts}
use Rattle.model.specs.declared.Call.{Call}
use Rattle.model.specs.declared.Verdict.{Verdict}
use Rattle.session.specs.Ascii.{ascii}
use Rattle.session.specs.Decimals.{decimal}
use Rattle.session.specs.Calls.{call_text}

-- what parts the numbers, and what ends a line
abbrev pub space : ℕ
space = code " "

abbrev pub colon : ℕ
colon = code ":"

abbrev pub line_end : ℕ
line_end = code "\n"

-- a context with this count: its number and the count, behind a space; nothing where it is not active
unfoldable pub context_text : ℕ → ℕ → List ℕ
context_text c zero = []
context_text c (suc k) = space ∷ decimal c ++ (colon ∷ decimal (suc k))

-- the active contexts below n, by rising number
unfoldable pub contexts_text : ℕ → Counts → List ℕ
contexts_text n counts = concat_map (λ c. context_text c (counts c)) (range 0 n)

-- the line that answers a call: the call, 0 or the refusal's number, the firings, the forced ones among them, the active contexts, parted by
-- one space
unfoldable pub answer_text : Call → Verdict → (firings forced n : ℕ) → Counts → List ℕ
answer_text k v firings forced n counts =
    call_text k
    ++ (space ∷ decimal (verdict_number v))
    ++ (space ∷ decimal firings)
    ++ (space ∷ decimal forced)
    ++ contexts_text n counts
    ++ (line_end ∷ [])

-- the line that answers a line which is no call
abbrev pub no_call_text : List ℕ
no_call_text = ascii "?\n"
