-- What a request meets: 10 outside the net, 14 where it is to deactivate what is not active, 11 where its step met the limit, 12 where a
-- token is left, 15 where an activation ends no higher than it began, and otherwise it is granted.
-- Assumes nothing.
use Prim.Native.Nat.{ℕ, ◌≤◌}
use native.Mathlib.Omega.{arith}
use mathlib.Core.Path.{◌≡◌, refl, sym, subst, ap, ◌∙◌}
use mathlib.Core.Logic.{◌↔◌, ⊎_elim}
use mathlib.Core.Bool.{Bool, true, false, not, cond}
use mathlib.Core.Option.{none-ne-some}
use mathlib.Core.List.{[], ◌∷◌}
use lib.Dec.{eqb, leb}
use lib.ListN.{length}
use borrow.Author.Tests.{leb-true, leb-false, le-leb, lt-leb, eqb-true, eq-eqb, not-true}
use Rattle.model.specs.Refusals.{refuse, first_refusal, is_granted}
use Rattle.model.specs.Relations.{Net, size}
use Rattle.model.specs.Transitions.{is_forced}
use Rattle.model.specs.Firing.{Outcome, forced_count, clear, step_limit}
use Rattle.model.specs.Machine.{Counts, Effect, initial_marking, step_of, asks_nothing, gains_nothing, checks_after, concluded, effect, without_firings}
use Rattle.model.specs.declared.Request.{Request}
use Rattle.model.specs.Claims.{Unfinished, Quiet, Completed, Off, Admitted, Unraised, Raises, Explained}
use Rattle.model.specs.declared.Verdict.{Verdict}
use Rattle.model.specs.declared.Verdict.TheVariants.{Granted, Refused}
use Rattle.model.proofs.Checks.{granted_verdict}
use Rattle.model.proofs.Tests.{not_true, not_both, and_left, and_right, and_both, and_false, zero_or_pos, passing_bound}
use Rattle.model.proofs.Runs.{run_firings, quiet_run, unfinished_run}
use Rattle.model.specs.declared.Refusal.TheVariants.{NoSuchContext, StepLimitMet, TokensLeft, AlreadyOff, NotRaised}

module _ (net : Net) (m : Counts) (r : Request) where
  abbrev end : Outcome
  end = step_of net m r

  abbrev verdict : Verdict
  verdict = (effect net m r).answer.verdict

  -- the last of the five tests
  abbrev low : Bool
  low = gains_nothing m r end.marking.count

  -- the effect, by the two tests before the step
  abbrev effect_by : (beyond off : Bool) → Effect
  effect_by b f =
      elim (first_refusal (refuse NoSuchContext b ∷ refuse AlreadyOff f ∷ [])) as (λ _. Effect) [
        | Granted ↦ concluded m end (first_refusal (checks_after net m r end))
        | Refused j ↦ record { answer = without_firings (Refused j); counts = m }
      ]

  -- the first broken of these five checks
  abbrev first_of : (beyond off quiet clear low : Bool) → Verdict
  first_of b f q k l =
      first_refusal
      (refuse NoSuchContext b ∷ refuse AlreadyOff f ∷ refuse StepLimitMet (not q) ∷ refuse TokensLeft (not k) ∷ refuse NotRaised l ∷ [])

  pub in_turn : verdict ≡ first_of (leb (size net) r.context) (asks_nothing m r) end.quiet (clear net end.marking) low
  unfolding effect concluded
  in_turn = go (leb (size net) r.context) (asks_nothing m r)
    where
      go : (b f : Bool) → (effect_by b f).answer.verdict ≡ first_of b f end.quiet (clear net end.marking) low
      go true f = refl
      go false true = refl
      go false false = refl

  -- what each test says of the request, and how to pass it
  off : leb (size net) r.context ≡ false → asks_nothing m r ≡ true → Off net m r
  off p f =
      record {
        inside = leb-false (size net) r.context p;
        deactivates = not-true r.on (and_left (not r.on) (eqb (m r.context) 0) f);
        none_held = eqb-true (m r.context) 0 (and_right (not r.on) (eqb (m r.context) 0) f);
      }

  asks_off : Off net m r → asks_nothing m r ≡ true
  asks_off o = and_both (ap not o.deactivates) (eq-eqb (m r.context) 0 o.none_held)

  admitted : leb (size net) r.context ≡ false → asks_nothing m r ≡ false → Admitted net m r
  admitted p f =
      record {
        inside = leb-false (size net) r.context p;
        active = λ e.
            ⊎_elim (λ z. absurd (not_both (asks_nothing m r) (and_both (ap not e) (eq-eqb (m r.context) 0 z)) f)) (λ l. l)
            (zero_or_pos (m r.context));
      }

  asks : Admitted net m r → asks_nothing m r ≡ false
  asks x =
      not_true (asks_nothing m r)
      (λ t.
      let o = off (lt-leb (size net) r.context x.inside) t in
      let z = o.none_held in
      let l = x.active o.deactivates in
      absurd (omega arith))

  goes_on : Unfinished net end → end.quiet ≡ false
  goes_on u =
      not_true end.quiet
      (λ q. none-ne-some u.enabled.0 (sym (quiet_run net step_limit (initial_marking m r) q).still ∙ u.enabled.1))

  stays_low : low ≡ true → Unraised m r end.marking.count
  stays_low l =
      let t = leb (end.marking.count r.context) (m r.context) in
      record {
        activates = and_left r.on t l;
        no_higher = leb-true (end.marking.count r.context) (m r.context) (and_right r.on t l);
      }

  is_low : Unraised m r end.marking.count → low ≡ true
  is_low x = and_both x.activates (le-leb (end.marking.count r.context) (m r.context) x.no_higher)

  rises : low ≡ false → Raises m r end.marking.count
  rises l on =
      leb-false (end.marking.count r.context) (m r.context)
      (and_false r.on (leb (end.marking.count r.context) (m r.context)) l on)

  not_low : Raises m r end.marking.count → low ≡ false
  not_low u =
      not_true low
      (λ l.
      let x = stays_low l in
      let z = x.no_higher in
      let h = u x.activates in
      absurd (omega arith))

  -- the condition of each verdict; no request meets the other ten refusals
  abbrev Meets : Verdict → Type 0
  Meets Granted = Admitted net m r × Completed net end × Raises m r end.marking.count
  Meets (Refused NoSuchContext) = size net ≤ r.context
  Meets (Refused AlreadyOff) = Off net m r
  Meets (Refused StepLimitMet) = Admitted net m r × Unfinished net end
  Meets (Refused TokensLeft) = Admitted net m r × Quiet net end × (clear net end.marking ≡ false)
  Meets (Refused NotRaised) = Admitted net m r × Completed net end × Unraised m r end.marking.count
  Meets (Refused _) = ⊥

  -- the condition of the verdict that the request gets holds
  judged : Meets verdict
  judged =
      subst Meets (sym in_turn)
      (go (leb (size net) r.context) refl (asks_nothing m r) refl end.quiet refl (clear net end.marking) refl low refl)
    where
      quiet : end.quiet ≡ true → Quiet net end
      quiet e = quiet_run net step_limit (initial_marking m r) e

      go : (b : Bool) → leb (size net) r.context ≡ b → (f : Bool) → asks_nothing m r ≡ f → (q : Bool) → end.quiet ≡ q
          → (k : Bool) → clear net end.marking ≡ k → (l : Bool) → low ≡ l → Meets (first_of b f q k l)
      go true p f a q e k c l d = leb-true (size net) r.context p
      go false p true a q e k c l d = off p a
      go false p false a false e k c l d = (admitted p a, unfinished_run net (initial_marking m r) e)
      go false p false a true e false c l d = (admitted p a, quiet e, c)
      go false p false a true e true c true d = (admitted p a, record { quiet = quiet e; cleared = c }, stays_low d)
      go false p false a true e true c false d = (admitted p a, record { quiet = quiet e; cleared = c }, rises d)

  -- and no other verdict's does
  met : (w : Verdict) → Meets w → verdict ≡ w
  met w x = in_turn ∙ go w x
    where
      inside : Admitted net m r → leb (size net) r.context ≡ false
      inside x = lt-leb (size net) r.context x.inside

      go : (w : Verdict) → Meets w → first_of (leb (size net) r.context) (asks_nothing m r) end.quiet (clear net end.marking) low ≡ w
      go Granted x = λ i. first_of (inside x.0 i) (asks x.0 i) (x.1.quiet.quiet i) (x.1.cleared i) (not_low x.2 i)
      go (Refused NoSuchContext) h =
          λ i. first_of (le-leb (size net) r.context h i) (asks_nothing m r) end.quiet (clear net end.marking) low
      go (Refused AlreadyOff) o =
          λ i. first_of (lt-leb (size net) r.context o.inside i) (asks_off o i) end.quiet (clear net end.marking) low
      go (Refused StepLimitMet) x = λ i. first_of (inside x.0 i) (asks x.0 i) (goes_on x.1 i) (clear net end.marking) low
      go (Refused TokensLeft) x = λ i. first_of (inside x.0 i) (asks x.0 i) (x.1.quiet i) (x.2 i) low
      go (Refused NotRaised) x = λ i. first_of (inside x.0 i) (asks x.0 i) (x.1.quiet.quiet i) (x.1.cleared i) (is_low x.2 i)
      go (Refused _) x = absurd x

  exactly : (w : Verdict) → (verdict ≡ w) ↔ Meets w
  exactly w = (λ p. subst Meets p judged, met w)

  -- a granted request leaves the counts of its step's end, a refused one those before it
  counts_at : {w : Verdict} → verdict ≡ w → (effect net m r).counts ≡ cond (is_granted w) end.marking.count m
  unfolding effect concluded
  counts_at p = go (leb (size net) r.context) (asks_nothing m r) ∙ ap (λ w. cond (is_granted w) end.marking.count m) p
    where
      go : (b f : Bool) → (effect_by b f).counts ≡ cond (is_granted (effect_by b f).answer.verdict) end.marking.count m
      go true f = refl
      go false true = refl
      go false false = refl

  -- the firings of a request, and the forced ones among them, are those of its step, or none where it makes none
  firings_by : (P : (firings forced : ℕ) → Type 0) → ((Admitted net m r → ⊥) → P 0 0)
      → (Admitted net m r → P (length end.fired) (forced_count end.fired)) → P (effect net m r).answer.firings (effect net m r).answer.forced
  unfolding effect concluded
  firings_by P none_made made = go (leb (size net) r.context) refl (asks_nothing m r) refl
    where
      go : (b : Bool) → leb (size net) r.context ≡ b → (f : Bool) → asks_nothing m r ≡ f
          → P (effect_by b f).answer.firings (effect_by b f).answer.forced
      go true p f a = none_made (λ x. not_both _ p (lt-leb (size net) r.context x.inside))
      go false p true a = none_made (λ x. not_both _ a (asks x))
      go false p false a = made (admitted p a)

  pub effect_firings : (P : (firings forced : ℕ) → Type 0) → P 0 0 → P (length end.fired) (forced_count end.fired)
      → P (effect net m r).answer.firings (effect net m r).answer.forced
  effect_firings P none_made made = firings_by P (λ _. none_made) (λ _. made)

  pub explained : Explained net m r
  explained =
      record {
        ten = exactly (Refused NoSuchContext);
        fourteen = exactly (Refused AlreadyOff);
        eleven = exactly (Refused StepLimitMet);
        twelve = exactly (Refused TokensLeft);
        fifteen = exactly (Refused NotRaised);
        granted = exactly Granted;
        moved = counts_at;
        kept = λ k p. counts_at p;
        fired = λ x. firings_by (λ k j. k ≡ length end.fired) (λ d. absurd (d x)) (λ _. refl);
        forced = λ x. firings_by (λ k j. j ≡ forced_count end.fired) (λ d. absurd (d x)) (λ _. refl);
        unfired = λ d. firings_by (λ k j. (k ≡ 0) × (j ≡ 0)) (λ _. (refl, refl)) (λ x. absurd (d x));
      }

  -- a granted request's step, and the effect that it has
  pub record Grant : Type 0 where
    pub admitted : Admitted net m r
    pub step : Completed net end
    pub counts : (effect net m r).counts ≡ end.marking.count
    pub raises : Raises m r (effect net m r).counts
    pub firings : (effect net m r).answer.firings ≡ length end.fired

  pub granted_step : is_granted verdict ≡ true → Grant
  granted_step g =
      let e = granted_verdict verdict g in
      let x : Meets Granted = subst Meets e judged in
      let k = counts_at e in
      record { admitted = x.0; step = x.1; counts = k; raises = subst (Raises m r) (sym k) x.2; firings = explained.fired x.0 }

  -- no answer reports more firings than a step may make
  pub firings_bound : (effect net m r).answer.firings ≤ 4096
  firings_bound = effect_firings (λ k j. k ≤ 4096) (omega arith) (run_firings net step_limit (initial_marking m r))

  -- nor more forced ones than firings
  pub forced_bound : (effect net m r).answer.forced ≤ (effect net m r).answer.firings
  forced_bound = effect_firings (λ k j. j ≤ k) (omega arith) (passing_bound is_forced end.fired)
