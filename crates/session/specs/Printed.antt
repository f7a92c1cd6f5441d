-- Worked examples: the lines that answer a session on the net of the six conditions. They are proved by computing.
-- Assumes nothing.
use Rattle.std.specs.Prelude.{ℕ, ◌≡◌, List, [], ◌∷◌, length, get_or}
use Prim.Native.String.{String}
use Rattle.model.specs.declared.Call.{Call}
use Rattle.model.specs.declared.Call.TheVariants.{Activate, Deactivate, Undo, Settle}
use Rattle.model.specs.declared.Verdict.{Verdict}
use Rattle.model.specs.declared.Verdict.TheVariants.{Granted, Refused}
use Rattle.model.specs.declared.Refusal.TheVariants.{StepLimitMet, TokensLeft, NothingOpen}
use Rattle.session.specs.Ascii.{ascii}
use Rattle.session.specs.Answers.{answer_text}

pub data Example : Type 0 where
  -- a call, its verdict, its firings, the forced ones among them, the counts after it, and the line printed
  prints : Call → Verdict → (firings forced : ℕ) → (counts : List ℕ) → String → Example

abbrev pub Correct : Example → Type 0
Correct (prints k v firings forced counts line) = answer_text k v firings forced (length counts) (λ c. get_or counts c 0) ≡ ascii line

-- what the input +0 +4 +3 -0 u u s u prints on the six conditions, and a line with numbers of several digits
unfoldable pub printed : List Example
printed =
    prints (Activate 0) Granted 1 0 (1 ∷ 0 ∷ 0 ∷ 0 ∷ 0 ∷ 0 ∷ []) "+0 0 1 0 0:1\n"
    ∷ prints (Activate 4) Granted 1 0 (1 ∷ 0 ∷ 0 ∷ 0 ∷ 1 ∷ 0 ∷ []) "+4 0 1 0 0:1 4:1\n"
    ∷ prints (Activate 3) (Refused TokensLeft) 2 0 (1 ∷ 0 ∷ 0 ∷ 0 ∷ 1 ∷ 0 ∷ []) "+3 12 2 0 0:1 4:1\n"
    ∷ prints (Deactivate 0) Granted 2 1 (0 ∷ 0 ∷ 0 ∷ 0 ∷ 0 ∷ 0 ∷ []) "-0 0 2 1\n"
    ∷ prints Undo Granted 0 0 (1 ∷ 0 ∷ 0 ∷ 0 ∷ 1 ∷ 0 ∷ []) "u 0 0 0 0:1 4:1\n"
    ∷ prints Undo Granted 0 0 (1 ∷ 0 ∷ 0 ∷ 0 ∷ 0 ∷ 0 ∷ []) "u 0 0 0 0:1\n"
    ∷ prints Settle Granted 0 0 (1 ∷ 0 ∷ 0 ∷ 0 ∷ 0 ∷ 0 ∷ []) "s 0 0 0 0:1\n"
    ∷ prints Undo (Refused NothingOpen) 0 0 (1 ∷ 0 ∷ 0 ∷ 0 ∷ 0 ∷ 0 ∷ []) "u 13 0 0 0:1\n"
    ∷ prints (Activate 255) (Refused StepLimitMet) 4096 2048 (0 ∷ 0 ∷ 0 ∷ 0 ∷ 0 ∷ 0 ∷ 0 ∷ 0 ∷ 0 ∷ 0 ∷ 255 ∷ []) "+255 11 4096 2048 10:255\n"
    ∷ []
