-- The sets of a net's transitions hold contexts of the net only, so that no firing touches a place of a number that is not below n; and a
-- temporary place never holds more tokens than the firings made, and one.
-- Assumes nothing.
use Prim.Native.Nat.{ℕ, suc, ◌+◌, ◌*◌, ◌-◌, ◌/◌, ◌%◌, ◌^◌, ◌<◌, ◌≤◌}
use native.Mathlib.Nat.{zero-add, le_of_suc-le-suc}
use native.Mathlib.Omega.{arith}
use mathlib.Core.Path.{◌≡◌, refl, sym, subst, ap₂, ◌∙◌, ap}
use mathlib.Core.Logic.{⊎_elim}
use mathlib.Core.Bool.{Bool, true, false, ◌&&◌, ◌||◌, not, false≢true}
use mathlib.Core.List.{List}
use lib.ListN.{length, get_or}
use borrow.Author.Tests.{eqb-true}
use Rattle.model.specs.Sets.{Set, singleton, empty_set, bit, Each}
use Rattle.model.specs.Relations.{Net, size, related, causes, implies, requires, suggests}
use Rattle.model.specs.Transitions.{Transition, asks_on, asks_off, act, deac, forced, drop_of, decline_of, transitions}
use Rattle.model.specs.Firing.{Marking, fire, step_limit}
use Rattle.model.specs.Machine.{Counts, Event, initial_marking, step_of}
use Rattle.model.specs.declared.Request.{Request}
use Rattle.model.specs.Image.{set_bytes}
use Rattle.model.specs.Claims.{Fits}
use Rattle.model.proofs.Tests.{or_cases, and_left, not_true, each_map}
use Rattle.model.proofs.Shapes.{Shape, is_act, is_deac, is_drop, is_implied, is_required, is_decline, shapes}
use Rattle.model.proofs.Ready.{related_ends, excluded_ends, next_ready}
use Rattle.model.proofs.Runs.{run_keeps}
use Rattle.model.proofs.Effects.{granted_step}
use Rattle.model.proofs.Masks.{bit_lt, set_bit}
use Rattle.model.proofs.Replay.{Reached, start, then}

abbrev pub Below : ℕ → Set → Type 0
Below n f = (x : ℕ) → f x ≡ true → x < n

pub record Bounded (n : ℕ) (t : Transition) : Type 0 where
  pub takes_context : Below n t.takes_context
  pub takes_pr : Below n t.takes_pr
  pub takes_not : Below n t.takes_not
  pub gives_context : Below n t.gives_context
  pub gives_pr : Below n t.gives_pr
  pub gives_not : Below n t.gives_not
  pub inhib_context : Below n t.inhib_context
  pub inhib_pr : Below n t.inhib_pr

empty_below : (n : ℕ) → Below n empty_set
empty_below n x e = absurd (false≢true e)

singleton_below : (n c : ℕ) → c < n → Below n (singleton c)
singleton_below n c h x e = subst (λ (y : ℕ). y < n) (sym (eqb-true x c e)) h

module _ (net : Net) (fits : Fits net) where
  asked_below : (a : ℕ) → Below (size net) (λ b. related net.rels causes a b || related net.rels implies a b)
  asked_below a x e =
      ⊎_elim (λ h. (related_ends net fits causes a x h).right) (λ h. (related_ends net fits implies a x h).right)
      (or_cases (related net.rels causes a x) (related net.rels implies a x) e)

  asked_on_below : (a : ℕ) → Below (size net) (λ b. related net.rels causes a b || related net.rels implies a b || related net.rels suggests a b)
  asked_on_below a x e =
      ⊎_elim (λ h. asked_below a x h) (λ h. (related_ends net fits suggests a x h).right)
      (or_cases (related net.rels causes a x || related net.rels implies a x) (related net.rels suggests a x) e)

  act_bounded : (c : ℕ) → c < size net → Bounded (size net) (act net.rels c)
  unfolding act asks_on
  act_bounded c h =
      record {
        takes_context = λ x e. (related_ends net fits requires c x e).right;
        takes_pr = singleton_below (size net) c h;
        takes_not = empty_below (size net);
        gives_context = λ x e.
            ⊎_elim (λ p. singleton_below (size net) c h x p) (λ p. (related_ends net fits requires c x p).right)
            (or_cases (singleton c x) (related net.rels requires c x) e);
        gives_pr = asked_on_below c;
        gives_not = empty_below (size net);
        inhib_context = λ x e. (excluded_ends net fits c x e).right;
        inhib_pr = empty_below (size net);
      }

  deac_bounded : (c : ℕ) → c < size net → Bounded (size net) (deac net.rels c)
  unfolding deac asks_off
  deac_bounded c h =
      record {
        takes_context = singleton_below (size net) c h;
        takes_pr = empty_below (size net);
        takes_not = singleton_below (size net) c h;
        gives_context = empty_below (size net);
        gives_pr = empty_below (size net);
        gives_not = asked_below c;
        inhib_context = empty_below (size net);
        inhib_pr = empty_below (size net);
      }

  forced_bounded : (a b : ℕ) (pr : Set) → a < size net → b < size net → Below (size net) pr → Bounded (size net) (forced net.rels a (singleton b) pr)
  unfolding forced asks_off
  forced_bounded a b pr ha hb hp =
      record {
        takes_context = singleton_below (size net) a ha;
        takes_pr = empty_below (size net);
        takes_not = empty_below (size net);
        gives_context = empty_below (size net);
        gives_pr = empty_below (size net);
        gives_not = λ x e. asked_below a x (and_left (asks_off net.rels a x) (not (singleton b x)) e);
        inhib_context = singleton_below (size net) b hb;
        inhib_pr = hp;
      }

  drop_bounded : (b : ℕ) → b < size net → Bounded (size net) (drop_of b)
  unfolding drop_of
  drop_bounded b h =
      record {
        takes_context = empty_below (size net);
        takes_pr = empty_below (size net);
        takes_not = singleton_below (size net) b h;
        gives_context = empty_below (size net);
        gives_pr = empty_below (size net);
        gives_not = empty_below (size net);
        inhib_context = singleton_below (size net) b h;
        inhib_pr = empty_below (size net);
      }

  decline_bounded : (b : ℕ) → b < size net → Bounded (size net) (decline_of b)
  unfolding decline_of
  decline_bounded b h =
      record {
        takes_context = empty_below (size net);
        takes_pr = singleton_below (size net) b h;
        takes_not = empty_below (size net);
        gives_context = empty_below (size net);
        gives_pr = empty_below (size net);
        gives_not = empty_below (size net);
        inhib_context = empty_below (size net);
        inhib_pr = empty_below (size net);
      }

  shape_bounded : {t : Transition} → Shape net t → Bounded (size net) t
  shape_bounded (is_act c h) = act_bounded c h
  shape_bounded (is_deac c h) = deac_bounded c h
  shape_bounded (is_drop a b r) = drop_bounded b (related_ends net fits causes a b r).right
  shape_bounded (is_implied a b r) =
      let n = related_ends net fits implies a b r in
      forced_bounded a b (singleton b) n.left n.right (singleton_below (size net) b n.right)
  shape_bounded (is_required a b r) =
      let n = related_ends net fits requires a b r in
      forced_bounded a b empty_set n.left n.right (empty_below (size net))
  shape_bounded (is_decline a b r) = decline_bounded b (related_ends net fits suggests a b r).right

  pub bounded : Each (Bounded (size net)) (transitions net)
  bounded = each_map (λ t s. shape_bounded s) (shapes net)

-- a set of a transition holds no context that the net does not have, so those bits are 0
pub unused : (n : ℕ) (f : Set) → Below n f → (c : ℕ) → n ≤ c → f c ≡ false
unused n f p c h = not_true (f c) (λ e. let k = p c e in omega arith)

pub unused_bits : (w n : ℕ) (f : Set) → Below n f → (c : ℕ) → n ≤ c → c < 8 * w → get_or (set_bytes w f) (c / 8) 0 / 2 ^ (c % 8) % 2 ≡ 0
unused_bits w n f p c h l = set_bit w f c l ∙ ap bit (unused n f p c h)

-- a place beyond the net keeps its tokens
tokens_beyond : (n : ℕ) (takes gives : Set) → Below n takes → Below n gives → (f : ℕ → ℕ) (c : ℕ) → n ≤ c → f c - bit (takes c) + bit (gives c) ≡ f c
tokens_beyond n takes gives p q f c h =
    ap₂ (λ (x y : Bool). f c - bit x + bit y) (unused n takes p c h) (unused n gives q c h) ∙ omega arith

pub record Untouched (n : ℕ) (m m' : Marking) : Type 0 where
  pub count : (c : ℕ) → n ≤ c → m'.count c ≡ m.count c
  pub pr : (c : ℕ) → n ≤ c → m'.pr c ≡ m.pr c
  pub pr_not : (c : ℕ) → n ≤ c → m'.pr_not c ≡ m.pr_not c

pub fire_untouched : (n : ℕ) (t : Transition) → Bounded n t → (m : Marking) → Untouched n m (fire t m)
unfolding fire
fire_untouched n t b m =
    record {
      count = tokens_beyond n t.takes_context t.gives_context b.takes_context b.gives_context m.count;
      pr = tokens_beyond n t.takes_pr t.gives_pr b.takes_pr b.gives_pr m.pr;
      pr_not = tokens_beyond n t.takes_not t.gives_not b.takes_not b.gives_not m.pr_not;
    }

module _ (net : Net) (fits : Fits net) where
  step_untouched : (m : Counts) (r : Request) → Untouched (size net) (initial_marking m r) (step_of net m r).marking
  step_untouched m r =
      run_keeps net (λ _ m'. Untouched (size net) (initial_marking m r) m')
      (λ _ m' t u e.
      let k = fire_untouched (size net) t (shape_bounded net fits (next_ready net m' t e).1) m' in
      record {
        count = λ c h. k.count c h ∙ u.count c h;
        pr = λ c h. k.pr c h ∙ u.pr c h;
        pr_not = λ c h. k.pr_not c h ∙ u.pr_not c h;
      })
      step_limit 0 (initial_marking m r) (record { count = λ c h. refl; pr = λ c h. refl; pr_not = λ c h. refl })

  pub reached_beyond : {m₀ : Counts} {h : List Event} {m : Counts} → Reached net m₀ h m → (c : ℕ) → size net ≤ c → m c ≡ m₀ c
  unfolding initial_marking
  reached_beyond start c l = refl
  reached_beyond {m₀} (then {m = m} d r g) c l =
      subst (λ (f : Counts). f c ≡ m₀ c) (sym (granted_step net m r g).counts) ((step_untouched m r).count c l ∙ reached_beyond d c l)

-- the tokens of temporary places, after k firings
pub record Few (k : ℕ) (m : Marking) : Type 0 where
  pub pr : (c : ℕ) → m.pr c ≤ suc k
  pub pr_not : (c : ℕ) → m.pr_not c ≤ suc k

tokens_few : (x k : ℕ) (t g : Bool) → x ≤ suc k → x - bit t + bit g ≤ suc (suc k)
tokens_few x k t true h = omega arith
tokens_few x k t false h = omega arith

pub step_few : (net : Net) (m : Counts) (r : Request) → Few (length (step_of net m r).fired) (step_of net m r).marking
unfolding fire initial_marking
step_few net m r =
    subst (λ (k : ℕ). Few k (step_of net m r).marking) (zero-add (length (step_of net m r).fired))
    (run_keeps net Few
    (λ k m' t f e.
    record {
      pr = λ c. tokens_few (m'.pr c) k (t.takes_pr c) (t.gives_pr c) (f.pr c);
      pr_not = λ c. tokens_few (m'.pr_not c) k (t.takes_not c) (t.gives_not c) (f.pr_not c);
    })
    step_limit 0 (initial_marking m r)
    (record { pr = λ c. le_of_suc-le-suc (bit_lt (r.on && singleton r.context c)); pr_not = λ c. le_of_suc-le-suc (bit_lt (not r.on && singleton r.context c)) }))
