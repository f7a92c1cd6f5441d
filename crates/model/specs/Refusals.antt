-- docs/MACHINE.md, "Refusals": the fifteen numbers, and what it means that checks run in order.
-- Assumes nothing.
use Rattle.std.specs.Prelude.{ℕ, Bool, true, false, List, [], ◌∷◌, ◌<◌, ◌≡◌, ◌⊎◌, Result, Ok, Err, MatchResult}
use Rattle.model.specs.declared.Refusal.{Refusal}
use Rattle.model.specs.declared.Refusal.TheVariants.{ShortImage, OtherEdition, WrongSizes, WrongLayout, ZeroCapacity, WrongRelation, RepeatedRelation, ShortOutput, WrongRecords, NoSuchContext, StepLimitMet, TokensLeft, NothingOpen, AlreadyOff, NotRaised}
use Rattle.model.specs.declared.refusals.UnknownRefusal.{UnknownRefusal}
use Rattle.model.specs.declared.Verdict.{Verdict}
use Rattle.model.specs.declared.Verdict.TheVariants.{Granted, Refused}

-- the number of each refusal
abbrev pub number_of : Refusal → ℕ
-- too few bytes to hold a trailer
number_of ShortImage = 1
-- an edition that this format does not have
number_of OtherEdition = 2
-- n or r outside the limits, or a relation cut short in what composing is given
number_of WrongSizes = 3
-- a distance or the length that does not follow from the trailer's own n, r and t
number_of WrongLayout = 4
-- a context that could never hold a token
number_of ZeroCapacity = 5
-- an unknown kind, an end that is no context, or a relation of a context with itself
number_of WrongRelation = 6
-- a relation that an earlier one already states
number_of RepeatedRelation = 7
-- no room for the image
number_of ShortOutput = 8
-- records that are not those of the net that the relations compose
number_of WrongRecords = 9
-- a number that is no context of the net
number_of NoSuchContext = 10
-- the step reached its limit and could have gone on
number_of StepLimitMet = 11
-- the step ended by itself and left a temporary place marked
number_of TokensLeft = 12
-- undo with no open request
number_of NothingOpen = 13
-- switching off what is off already
number_of AlreadyOff = 14
-- an activation whose step ended in order and left its context no higher than it was
number_of NotRaised = 15

-- the number that stands for a verdict in answers and listings: 0 for granted
abbrev pub verdict_number : Verdict → ℕ
verdict_number Granted = 0
verdict_number (Refused r) = number_of r

-- whether a verdict is no refusal
abbrev pub is_granted : Verdict → Bool
is_granted Granted = true
is_granted (Refused r) = false

-- the verdict that the result of a check, or of a call that gives a value, stands for
abbrev pub verdict_of : {A : Type 0} → Result A Refusal → Verdict
verdict_of (Ok x) = Granted
verdict_of (Err r) = Refused r

-- the refusal with this number, or an error with a number that no refusal has
abbrev pub Numbers : ℕ → Result Refusal UnknownRefusal → Type 0
Numbers number result = MatchResult result (λ r. number_of r ≡ number) (λ e. (e.0 ≡ number) × ((number < 1) ⊎ (15 < number)))

-- one test of a call: where the rule is broken, the call is refused so
pub record Check : Type 0 where
  pub refusal : Refusal
  pub broken : Bool

abbrev pub refuse : Refusal → Bool → Check
refuse r b = record { refusal = r; broken = b }

-- The first broken check of a list refuses. Each check sees the whole input: one number is tested over all relations before the next is.
abbrev pub first_refusal : List Check → Verdict
first_refusal [] = Granted
first_refusal (c ∷ cs) = elim c.broken [ true ↦ Refused c.refusal | false ↦ first_refusal cs ]
