-- A request's verdicts before and after its step, and what it comes to.
-- Assumes nothing.
use Prim.Native.Nat.{ℕ}
use mathlib.Core.Bool.{Bool, true, false, cond, true≢false}
use mathlib.Core.Path.{◌≡◌, refl, sym, ap, ap₂, subst, ◌∙◌}
use mathlib.Core.List.{List}
use Rattle.model.specs.Refusals.{first_refusal, is_granted}
use Rattle.model.specs.Relations.{size}
use Rattle.model.specs.Relations as model
use Rattle.model.specs.Firing.{Marking, Outcome, clear, fire_until_quiet, step_limit}
use Rattle.model.specs.Machine.{Effect, initial_marking, step_of, concluded, effect, without_firings, with_firings}
use Rattle.model.specs.declared.Request.{Request}
use Rattle.model.specs.declared.Verdict.{Verdict}
use Rattle.model.specs.declared.Verdict.TheVariants.{Granted, Refused}
use Rattle.net.specs.Markings.{counts_in}
use Rattle.net.specs.declared.net.Net.{Net}
use Rattle.step.specs.Places.{marking_of, cleared, Limits, SameLimits}
use Rattle.step.specs.Steps.{Describes, Outcomes}
use Rattle.step.specs.declared.places.Places.{Places}
use Rattle.step.specs.declared.places.Stepped.{Stepped}
use Rattle.requests.specs.Judges.{tests_before, tests_after, told, Judges}

-- in any net that the arrays hold
module _ (net : Net) (caps counts : List ℕ) (r : Request) (whole : model.Net) (d : Describes whole net caps) where
  -- what a request comes to, by the verdict before its step
  abbrev effect_by : Verdict → Effect
  effect_by v =
      elim v as (λ _. Effect) [
        | Granted ↦ concluded (counts_in counts) (step_of whole (counts_in counts) r)
            (first_refusal (tests_after (step_of whole (counts_in counts) r).quiet (clear whole (step_of whole (counts_in counts) r).marking) r (counts_in counts r.context)
            ((step_of whole (counts_in counts) r).marking.count r.context)))
        | Refused j ↦ record { answer = without_firings (Refused j); counts = counts_in counts }
      ]

  effect_at : {v : Verdict} → v ≡ first_refusal (tests_before net.contexts (counts_in counts) r) → effect whole (counts_in counts) r ≡ effect_by v
  unfolding effect
  effect_at q = ap effect_by (ap (λ (k : ℕ). first_refusal (tests_before k (counts_in counts) r)) d.contexts ∙ sym q)

  -- a request that is refused before its step
  pub judges_before : (v : Verdict) → v ≡ first_refusal (tests_before net.contexts (counts_in counts) r) → is_granted v ≡ false
      → Judges (without_firings v) counts (effect whole (counts_in counts) r)
  judges_before Granted q f = absurd (true≢false f)
  judges_before (Refused k) q f =
      subst (Judges (without_firings (Refused k)) counts) (sym (effect_at q)) (record { answer = refl; counts = refl })

  -- a request that makes a step, which ends so
  module _ {first_verdict : Verdict} (passes : first_verdict ≡ first_refusal (tests_before net.contexts (counts_in counts) r)) (granted : is_granted first_verdict ≡ true) (p₀ p : Places) (first : Limits net.contexts caps p₀) (then : SameLimits p₀ p)
      (start : marking_of p₀ ≡ initial_marking (counts_in counts) r) {e : Stepped}
      (end : Outcomes e (marking_of p) (fire_until_quiet whole step_limit (marking_of p₀)))
      {clear_now : Bool} (clear_is : clear_now ≡ cleared p.contexts (marking_of p)) (after : List ℕ) (after_is : counts_in after ≡ (marking_of p).count) where
    abbrev m : Marking
    m = marking_of p

    h : Granted ≡ first_refusal (tests_before net.contexts (counts_in counts) r)
    h = go first_verdict granted ∙ passes
      where
        go : (v : Verdict) → is_granted v ≡ true → Granted ≡ v
        go Granted e = refl
        go (Refused k) e = absurd (true≢false (sym e))

    abbrev o : Outcome
    o = step_of whole (counts_in counts) r

    ended : Outcomes e m o
    ended = subst (λ (x : Marking). Outcomes e m (fire_until_quiet whole step_limit x)) start end

    abbrev due : Verdict
    due = first_refusal (tests_after o.quiet (clear whole o.marking) r (counts_in counts r.context) (o.marking.count r.context))

    clear_due : clear_now ≡ clear whole o.marking
    unfolding clear
    clear_due = clear_is ∙ ap (λ (k : ℕ). cleared k m) (then.contexts ∙ first.contexts ∙ sym d.contexts) ∙ ap (cleared (size whole)) ended.marking

    after_due : counts_in after ≡ o.marking.count
    after_due = after_is ∙ ap (λ (x : Marking). x.count) ended.marking

    verdict_is : first_refusal (tests_after e.quiet clear_now r (counts_in counts r.context) (counts_in after r.context)) ≡ due
    verdict_is = λ i. first_refusal (tests_after (ended.quiet i) (clear_due i) r (counts_in counts r.context) (after_due i r.context))

    effect_with : (v : Verdict) → v ≡ first_refusal (tests_after e.quiet clear_now r (counts_in counts r.context) (counts_in after r.context))
        → effect whole (counts_in counts) r ≡ concluded (counts_in counts) o v
    effect_with v q = effect_at h ∙ ap (concluded (counts_in counts) o) (sym (q ∙ verdict_is))

    told_is : (v : Verdict) → told v e ≡ with_firings o v
    told_is v = ap₂ (λ (k j : ℕ). record { verdict = v; firings = k; forced = j }) ended.firings ended.forced

    -- it leaves the counts of the step's end where it is granted, and else those from before it
    pub judges_after : (v : Verdict) → v ≡ first_refusal (tests_after e.quiet clear_now r (counts_in counts r.context) (counts_in after r.context))
        → (left : List ℕ) → left ≡ cond (is_granted v) after counts → Judges (told v e) left (effect whole (counts_in counts) r)
    unfolding concluded
    judges_after v q left l =
        subst (Judges (told v e) left) (sym (effect_with v q)) (record { answer = told_is v; counts = ap counts_in l ∙ go (is_granted v) })
      where
        go : (b : Bool) → counts_in (cond b after counts) ≡ cond b o.marking.count (counts_in counts)
        go true = after_due
        go false = refl
