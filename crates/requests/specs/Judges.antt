-- What a request on a composed net comes to.
-- Assumes nothing.
use Rattle.std.specs.Prelude.{◌≡◌, ℕ, Bool, ◌&&◌, not, List, [], ◌∷◌, leb}
use Rattle.model.specs.Refusals.{Check, refuse}
use Rattle.model.specs.Machine.{Counts, Effect, asks_nothing}
use Rattle.model.specs.declared.Refusal.TheVariants.{NoSuchContext, StepLimitMet, TokensLeft, AlreadyOff, NotRaised}
use Rattle.model.specs.declared.Request.{Request}
use Rattle.model.specs.declared.Verdict.{Verdict}
use Rattle.model.specs.declared.Answer.{Answer}
use Rattle.net.specs.Markings.{counts_in}
use Rattle.step.specs.declared.places.Stepped.{Stepped}

-- the checks of a request before anything fires, in a net of n contexts
abbrev pub tests_before : (n : ℕ) → Counts → Request → List Check
tests_before n m r = refuse NoSuchContext (leb n r.context) ∷ refuse AlreadyOff (asks_nothing m r) ∷ []

-- and those of a step that has ended: whether it is quiet, whether no temporary place holds a token, and the counts of the request's context
-- before it and after it
abbrev pub tests_after : (quiet clear : Bool) → Request → (before after : ℕ) → List Check
tests_after quiet clear r before after =
    refuse StepLimitMet (not quiet) ∷ refuse TokensLeft (not clear) ∷ refuse NotRaised (r.on && leb after before) ∷ []

-- the answer that tells of a step
abbrev pub told : Verdict → Stepped → Answer
told verdict stepped = record { verdict = verdict; firings = stepped.firings; forced = stepped.forced }

-- the answer and the counts are those of the effect
pub record Judges (a : Answer) (after : List ℕ) (e : Effect) : Type 0 where
  pub answer : a ≡ e.answer
  pub counts : counts_in after ≡ e.counts
