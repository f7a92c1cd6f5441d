-- A step on the places, one firing at a time.
-- Assumes nothing.
use Prim.Native.Nat.{ℕ, suc, ◌+◌, ◌-◌, ◌≤◌, ◌<◌}
use mathlib.Core.Bool.{Bool, true, false, ◌&&◌}
use mathlib.Core.Path.{◌≡◌, refl, sym, ap, subst, ◌∙◌}
use mathlib.Core.List.{List}
use native.Mathlib.Decide.{dec_lt}
use native.Mathlib.Numerals.{add-one}
use native.Mathlib.Omega.{arith}
use borrow.Author.Tests.{lt-ltb, le-ltb}
use lib.Dec.{ltb}
use lib.ListN.{length, get_or}
use Rattle.std.proofs.Common.{Some, None}
use Rattle.std.proofs.lemmas.List.{get_or-take}
use Rattle.sets.specs.Sets.{members, upto}
use Rattle.sets.proofs.Laws.{contained}
use Rattle.model.specs.Sets.{Set, bit, number}
use Rattle.model.specs.Relations as model
use Rattle.model.specs.Relations.{capacity}
use Rattle.model.specs.Transitions.{Transition, is_forced, transitions}
use Rattle.model.specs.Firing.{Marking, below_capacity, fire, fire_until_quiet, step_limit}
use Rattle.model.proofs.Masks.{number_cong}
use Rattle.model.proofs.Tests.{each_get_or}
use Rattle.model.proofs.Bounds.{Below, Bounded, bounded, unused}
use Rattle.model.proofs.Loops
use Rattle.model.proofs.Loops.{start, more, loop_quiet, loop_stopped}
use Rattle.net.specs.Tables.{blank}
use Rattle.net.specs.Nets.{net_with, arcs_of}
use Rattle.net.specs.Markings.{AtMost}
use Rattle.net.specs.Walks.{passes, Passing, Fires, Chooses}
use Rattle.net.specs.declared.net.Net.{Net}
use Rattle.net.proofs.Nets.{size_with, fits_with, stores_with}
use Rattle.transitions.specs.Arcs.{Holds, unasked}
use Rattle.transitions.specs.declared.Arcs.{Arcs}
use Rattle.transitions.proofs.Telling.{forced_told}
use Rattle.step.specs.Spare.{below, spare_word}
use Rattle.step.specs.Places.{marking_of, reading, SameLimits, Firable}
use Rattle.step.specs.Steps.{Describes, Outcomes}
use Rattle.step.specs.declared.places.Places.{Places}

-- a word of a transition's set holds it, among n contexts and beyond
set_is : (n : ℕ) → n ≤ 48 → (f : Set) → Below n f → {a : ℕ} → a ≡ number 64 f → (j : ℕ) → upto n (members a) j ≡ f j
set_is n few f low {a} e j = go (dec_lt j n)
  where
    go : Dec (j < n) → upto n (members a) j ≡ f j
    go (yes h) = ap (λ (b : Bool). b && members a j) (lt-ltb j n h) ∙ contained 64 f e j (omega arith)
    go (no h) = ap (λ (b : Bool). b && members a j) (le-ltb j n (omega arith)) ∙ sym (unused n f low j (omega arith))

-- so the transition that the words hold fires as the net's does
reading_fires : (n : ℕ) → n ≤ 48 → (a : Arcs) (t : Transition) → Holds a t → Bounded n t → (m : Marking) → fire (reading n a) m ≡ fire t m
unfolding reading fire
reading_fires n few a t h b m = λ i.
    record {
      count = λ c. m.count c - bit (set_is n few t.takes_context b.takes_context h.takes_context c i) + bit (set_is n few t.gives_context b.gives_context h.gives_context c i);
      pr = λ c. m.pr c - bit (set_is n few t.takes_pr b.takes_pr h.takes_pr c i) + bit (set_is n few t.gives_pr b.gives_pr h.gives_pr c i);
      pr_not = λ c. m.pr_not c - bit (set_is n few t.takes_not b.takes_not h.takes_not c i) + bit (set_is n few t.gives_not b.gives_not h.gives_not c i);
    }

-- a firing puts at most one token more on a temporary place, and counts at most one more as forced
one_more : (x k : ℕ) (t g : Bool) → x ≤ k → x - bit t + bit g ≤ k + 1
one_more x k t true h = omega arith
one_more x k t false h = omega arith

fire_low : (k : ℕ) (t : Transition) (m : Marking) → AtMost k m → AtMost (k + 1) (fire t m)
unfolding fire
fire_low k t m l =
    record {
      pr = λ c. one_more (m.pr c) k (t.takes_pr c) (t.gives_pr c) (l.pr c);
      pr_not = λ c. one_more (m.pr_not c) k (t.takes_not c) (t.gives_not c) (l.pr_not c);
    }

-- the net with the first of these capacities is one that the arrays hold
pub described : (net : Net) (capacities : List ℕ) → net.contexts ≤ length capacities → Describes (net_with net capacities) net capacities
described net capacities long =
    record {
      contexts = size_with net capacities long;
      fits = fits_with net capacities long;
      capacity_at = λ c h. get_or-take net.contexts capacities c 0 h;
      table = stores_with net capacities long;
    }

-- the set of the contexts below the first n of these capacities, as the nets that the arrays hold have them
spare_of : (net : Net) (capacities counts : List ℕ) (whole : model.Net) → Describes whole net capacities
    → (m : Marking) → m.count ≡ (λ c. get_or counts c 0)
    → spare_word net.contexts capacities counts ≡ number 64 (upto net.contexts (below_capacity whole m))
unfolding below_capacity
spare_of net capacities counts whole d m e =
    number_cong 64 (upto net.contexts (below capacities counts)) (upto net.contexts (λ c. ltb (m.count c) (capacity whole c)))
    (λ j l. go j (dec_lt j net.contexts))
  where
    go : (j : ℕ) → Dec (j < net.contexts)
        → (ltb j net.contexts && ltb (get_or counts j 0) (get_or capacities j 0)) ≡ (ltb j net.contexts && ltb (m.count j) (capacity whole j))
    go j (yes h) =
        ap (λ (x : ℕ). ltb j net.contexts && ltb (get_or counts j 0) x) (sym (d.capacity_at j h))
        ∙ ap (λ (f : ℕ → ℕ). ltb j net.contexts && ltb (f j) (capacity whole j)) (sym e)
    go j (no h) =
        ap (λ (b : Bool). b && ltb (get_or counts j 0) (get_or capacities j 0)) (le-ltb j net.contexts (omega arith))
        ∙ sym (ap (λ (b : Bool). b && ltb (m.count j) (capacity whole j)) (le-ltb j net.contexts (omega arith)))

-- The step so far, from the places p₀: in every net that the arrays hold and that is one of some, be these all nets or one.
pub record Going (Among : model.Net → Type 0) (net : Net) (p₀ p : Places) (firings forced : ℕ) : Type 0 where
  pub few : firings ≤ 4096
  pub fewer : forced ≤ firings
  pub contexts : p₀.contexts ≡ net.contexts
  pub limits : SameLimits p₀ p
  pub low : AtMost (firings + 1) (marking_of p)
  pub so_far :
      (whole : model.Net) → Describes whole net p₀.capacities → Among whole → Loops.Fired whole (marking_of p₀) firings forced (marking_of p)

pub going_start : {Among : model.Net → Type 0} (net : Net) (p₀ : Places) → p₀.contexts ≡ net.contexts → AtMost 1 (marking_of p₀) → Going Among net p₀ p₀ 0 0
going_start net p₀ e l = record { few = omega arith; fewer = omega arith; contexts = e; limits = record { contexts = refl; capacities = refl }; low = l; so_far = λ whole d h. start }

module _ {Among : model.Net → Type 0} (net : Net) (p₀ p : Places) {firings forced : ℕ} (g : Going Among net p₀ p firings forced) where
  same : p.contexts ≡ net.contexts
  same = g.limits.contexts ∙ g.contexts

  fires_in : (r : _) → Chooses net.contexts net.table p.marked p.spare r → (whole : model.Net) → Describes whole net p₀.capacities → Fires r whole (marking_of p)
  fires_in r ch whole d =
      ch.fires whole (marking_of p) d.contexts d.fits d.table (rw (sym same) p.shows)
      (rw (g.limits.capacities, same) at p.spare_is ∙ spare_of net p₀.capacities p.counts whole d (marking_of p) refl)

  pub in_arrays : {i : ℕ} → Chooses net.contexts net.table p.marked p.spare (Some i) → i < 192
  unfolding Passing
  in_arrays ch = ch.passing.0

  -- the transition found can fire
  pub can_fire : {i : ℕ} → Chooses net.contexts net.table p.marked p.spare (Some i) → (firings ≡ 4096 → ⊥) → {a : Arcs} → a ≡ arcs_of net i → Firable p a
  unfolding Passing
  can_fire ch h {a} e =
      let k = g.few in
      let l : firings + 1 ≤ 4096 = omega arith in
      record {
        ready = subst (λ (x : Arcs). passes x p.marked p.spare ≡ true) (sym e) ch.passing.1;
        low = record { pr = λ c. omega (arith, g.low.pr c); pr_not = λ c. omega (arith, g.low.pr_not c) };
      }

  -- one more firing
  pub going_on : {i : ℕ} → Chooses net.contexts net.table p.marked p.spare (Some i) → (firings ≡ 4096 → ⊥) → {a : Arcs} → a ≡ arcs_of net i → (p' : Places)
      → marking_of p' ≡ fire (reading p.contexts a) (marking_of p) → SameLimits p p' → {last : Bool} → last ≡ unasked a
      → Going Among net p₀ p' (firings + 1) (forced + bit last)
  unfolding Fires
  going_on {i} ch h {a} e p' f same_limits {last} forced_is =
      record {
        few = let k = g.few in omega arith;
        fewer = omega (arith, one_more forced firings false last g.fewer);
        contexts = g.contexts;
        limits = record { contexts = same_limits.contexts ∙ g.limits.contexts; capacities = same_limits.capacities ∙ g.limits.capacities };
        low = subst (AtMost (firings + 1 + 1)) (sym f) (fire_low (firings + 1) (reading p.contexts a) (marking_of p) g.low);
        so_far = λ whole d w. further whole d w (fires_in (Some i) ch whole d);
      }
    where
      further : (whole : model.Net) → Describes whole net p₀.capacities → Among whole → Fires (Some i) whole (marking_of p)
          → Loops.Fired whole (marking_of p₀) (firings + 1) (forced + bit last) (marking_of p')
      further whole d w fi =
          let u = get_or (transitions whole) i blank in
          let has : Holds a u = subst (λ (x : Arcs). Holds x u) (sym e) (d.table.at i (omega (arith, fi.0, d.table.count))) in
          let low : Bounded p.contexts u = subst (λ (k : ℕ). Bounded k u) (d.contexts ∙ sym same) (each_get_or (bounded whole d.fits) i blank fi.0) in
          let after : fire u (marking_of p) ≡ marking_of p' = sym (f ∙ reading_fires p.contexts p.few a u has low (marking_of p)) in
          let told : forced + bit (is_forced u) ≡ forced + bit last =
          sym (ap (λ (b : Bool). forced + bit b) (forced_is ∙ each_get_or (forced_told whole d.fits (omega (arith, d.contexts, net.few_contexts))) i blank fi.0 a has)) in
          subst (Loops.Fired whole (marking_of p₀) (firings + 1) (forced + bit last)) after
          (subst (λ (k : ℕ). Loops.Fired whole (marking_of p₀) k (forced + bit last) (fire u (marking_of p))) (sym (add-one firings))
          (subst (λ (j : ℕ). Loops.Fired whole (marking_of p₀) (suc firings) j (fire u (marking_of p))) told (more (g.so_far whole d w) u fi.1)))

  ends : (quiet : Bool) (whole : model.Net) → Loops.Ends whole (marking_of p₀) 4096 quiet firings forced (marking_of p)
      → Outcomes (record { firings = firings; forced = forced; quiet = quiet }) (marking_of p) (fire_until_quiet whole step_limit (marking_of p₀))
  ends quiet whole e = record { quiet = sym e.quiet_is; firings = sym e.firings_are; forced = sym e.forced_are; marking = sym e.marking_is }

  -- the ends
  pub ends_quiet : Chooses net.contexts net.table p.marked p.spare None → (whole : model.Net) → Describes whole net p₀.capacities → Among whole
      → Outcomes (record { firings = firings; forced = forced; quiet = true }) (marking_of p) (fire_until_quiet whole step_limit (marking_of p₀))
  unfolding Fires
  ends_quiet ch whole d w = ends true whole (loop_quiet whole (marking_of p₀) (g.so_far whole d w) 4096 g.few (fires_in None ch whole d))

  pub ends_stopped : {i : ℕ} → Chooses net.contexts net.table p.marked p.spare (Some i) → firings ≡ 4096 → (whole : model.Net) → Describes whole net p₀.capacities → Among whole
      → Outcomes (record { firings = firings; forced = forced; quiet = false }) (marking_of p) (fire_until_quiet whole step_limit (marking_of p₀))
  unfolding Fires
  ends_stopped {i} ch e whole d w =
      let fi = fires_in (Some i) ch whole d in
      ends false whole
      (subst (λ (k : ℕ). Loops.Ends whole (marking_of p₀) k false firings forced (marking_of p)) e
      (loop_stopped whole (marking_of p₀) (g.so_far whole d w) (get_or (transitions whole) i blank) fi.1))
