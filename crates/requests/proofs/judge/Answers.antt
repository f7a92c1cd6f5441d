-- The checks before the step are the model's, the step begins in the marking of the request, and the checks of its end are the model's.
use mathlib.Core.Bool.{cond}
use Rattle.std.proofs.Common.{arith}
use mathlib.Core.Path.{◌≡◌, sym, ap, subst, ◌∙◌}
use Rattle.std.proofs.lemmas.Bool.{cond-true, cond-false}
use Rattle.model.specs.Refusals.{is_granted}
use Rattle.model.specs.Firing.{Marking}
use Rattle.model.specs.Machine.{initial_marking}
use Rattle.model.specs.Claims.{at_rest}
use Rattle.net.specs.Markings.{counts_in, AtMost}
use Rattle.step.specs.Steps.{Describes}
use Rattle.step.proofs.Requests.{rests_low}
use Rattle.step.proofs.Running.{described}
use Rattle.requests.proofs.Judging.{judges_before, judges_after}
use Rattle.requests.proofs.judge.Goals as goal
use Rattle.requests.proofs.judge.Goals.{then-is_granted, else-is_granted}

pub begin-requires-clause-low : goal.begin-requires-clause-low
begin-requires-clause-low c =
    subst (AtMost 1) (sym c.at_rest-places.ensures.marking) (rests_low (counts_in c.args.counts.now))

pub returns-then-not-is_granted-clause-every : goal.returns-then-not-is_granted-clause-every
returns-then-not-is_granted-clause-every c =
    let a = c.args in
    λ whole d.
    rw c.unfired.ensures
    (judges_before a.net.now a.capacities.now a.counts.now a.request whole d c.from-before.result
    (c.from-before.ensures ∙ c.check_before.ensures) (sym c.is_granted.ensures ∙ c.if-not-is_granted.true))

pub returns-then-not-is_granted-clause-own : goal.returns-then-not-is_granted-clause-own
returns-then-not-is_granted-clause-own c =
    returns-then-not-is_granted-clause-every c _ (described c.args.net.now c.args.capacities.now (omega (arith, c.args.net.now.few_contexts)))

pub returns-clause-every : goal.returns-clause-every
returns-clause-every c =
    let a = c.args in
    let rest = c.at_rest-places.ensures in
    let begins = c.begin.ensures in
    let after = c.counts.result.now in
    let verdict = c.from-verdict.result in
    let left : c.if-is_granted.counts ≡ cond (is_granted verdict) after a.counts.now =
    elim c.if-is_granted.branch [
      | then-is_granted w ↦ w.counts-is ∙ sym (cond-true (is_granted verdict) after a.counts.now (sym c.is_granted-2.ensures ∙ w.if-is_granted.true))
      | else-is_granted w ↦ w.counts-is ∙ sym (cond-false (is_granted verdict) after a.counts.now (sym c.is_granted-2.ensures ∙ w.if-is_granted.false))
    ] in
    let begun = begins.marking (rest.marking ∙ ap (λ (m : Marking). at_rest m.count) (sym rest.marking)) in
    λ whole d.
    rw c.answer.ensures
    (judges_after a.net.now a.capacities.now a.counts.now a.request whole d
    (c.from-before.ensures ∙ c.check_before.ensures) (sym c.is_granted.ensures ∙ c.if-not-is_granted.false) c.begin.new.self c.run-stepped.new.self
    (record { contexts = begins.limits.contexts ∙ rest.limits.contexts; capacities = begins.limits.capacities ∙ rest.limits.capacities })
    c.run-stepped.ensures.limits (begun ∙ ap (λ (m : Marking). initial_marking m.count a.request) rest.marking)
    (c.run-stepped.ensures.every whole (subst (Describes whole a.net.now) (sym (begins.limits.capacities ∙ rest.limits.capacities)) d))
    c.is_clear-clear.ensures after c.counts.ensures verdict (c.from-verdict.ensures ∙ c.check_after.ensures) c.if-is_granted.counts left)

pub returns-clause-own : goal.returns-clause-own
returns-clause-own c =
    returns-clause-every c _ (described c.args.net.now c.args.capacities.now (omega (arith, c.args.net.now.few_contexts)))
