-- What holds of the counts after every list of calls: no count is above its capacity, no excluded pair is active together,
-- and each context that an active one implies or requires is active.
-- Assumes nothing.
use Prim.Native.Nat.{ℕ, ◌+◌, ◌-◌, ◌<◌, ◌≤◌}
use native.Mathlib.Omega.{arith}
use mathlib.Core.Path.{◌≡◌, refl, sym, subst, ap, ◌∙◌}
use mathlib.Core.Logic.{⊎_elim}
use mathlib.Core.Bool.{Bool, true, false, ◌&&◌, false≢true}
use mathlib.Core.Option.{none, some}
use mathlib.Core.List.{List, [], ◌∷◌}
use borrow.Author.Tests.{eqb-true, eq-eqb, lt-ltb}
use Rattle.model.specs.Sets.{Set, singleton, empty_set, bit, any, concat_map, range, Each, nil, cons, IsByte}
use Rattle.model.specs.Relations.{Net, size, capacity, matches, related, excluded, excludes, implies, requires}
use Rattle.model.specs.declared.Relation.{Relation}
use Rattle.model.specs.Transitions.{Transition, forced, extra, context_transitions, extra_transitions, transitions_of}
use Rattle.model.specs.Firing.{Marking, below_capacity, ready_at, ready, ready_of, enabled, enabled_of, next, next_of, fire, clear, is_empty, step_limit}
use Rattle.model.specs.Machine.{Counts, Event, zeros, initial_marking, step_of, effect}
use Rattle.model.specs.declared.Request.{Request}
use Rattle.model.specs.Image.{Format}
use Rattle.model.specs.Claims.{Fits, Valid, Rules, Active}
use Rattle.model.proofs.Tests.{and_left, or_cases, or_left, or_right, imp_make, six_make, zero_or_pos, not_both, below_at, below_make, each_left, each_right, each_get_or, first_each}
use Rattle.model.proofs.Ready.{Sound, allowed, sound, matches_relation, excluded_ends, none_ready, next_ready}
use Rattle.model.proofs.Runs.{run_keeps}
use Rattle.model.proofs.Effects.{granted_step}
use Rattle.model.proofs.Replay.{Reached, start, then, Grants}

-- the tokens of one place after a firing
moved_within : (x cap : ℕ) (t g : Bool) → x ≤ cap → (t ≡ true → 0 < x) → (g ≡ true → t ≡ false → x < cap) → x - bit t + bit g ≤ cap
moved_within x cap true true h a s = let q = a refl in omega arith
moved_within x cap true false h a s = omega arith
moved_within x cap false true h a s = let q = s refl refl in omega arith
moved_within x cap false false h a s = omega arith

moved_raised : (x : ℕ) (t g : Bool) → x ≡ 0 → (t ≡ true → 0 < x) → 0 < x - bit t + bit g → (g ≡ true) × (t ≡ false)
moved_raised x true g z a h = let q = a refl in absurd (omega arith)
moved_raised x false true z a h = (refl, refl)
moved_raised x false false z a h = absurd (omega arith)

excluded_sym : (rels : List Relation) (a b : ℕ) → excluded rels a b ≡ true → excluded rels b a ≡ true
unfolding excluded
excluded_sym rels a b e =
    ⊎_elim (λ h. or_right (related rels excludes b a) h) (λ h. or_left (related rels excludes a b) h)
    (or_cases (related rels excludes a b) (related rels excludes b a) e)

-- what every firing keeps
pub record Safe (net : Net) (m : Counts) : Type 0 where
  pub within : (c : ℕ) → c < size net → m c ≤ capacity net c
  pub apart : (a b : ℕ) → excluded net.rels a b ≡ true → 0 < m a → 0 < m b → ⊥

module _ (net : Net) (fits : Fits net) (m : Marking) (t : Transition) (s : Sound net.rels t) (e : ready_of net m t ≡ true) where
  raised : (c : ℕ) → c < size net → m.count c ≡ 0 → 0 < (fire t m).count c → (t.gives_context c ≡ true) × (t.takes_context c ≡ false)
  unfolding fire
  raised c h z p = moved_raised (m.count c) (t.takes_context c) (t.gives_context c) z (allowed net m t e c h).taken p

  -- the contexts excluded with a raised one are empty
  beside : (a b : ℕ) → excluded net.rels a b ≡ true → m.count a ≡ 0 → 0 < (fire t m).count a → m.count b ≡ 0
  beside a b x z p =
      let n = excluded_ends net fits a b x in
      let u = raised a n.left z p in
      (allowed net m t e b n.right).blocked ((s.rising a u.0 u.1).inhibits b x)

  fire_apart : Safe net m.count → (a b : ℕ) → excluded net.rels a b ≡ true → 0 < (fire t m).count a → 0 < (fire t m).count b → ⊥
  fire_apart safe a b x p q = ⊎_elim first_empty first_held (zero_or_pos (m.count a))
    where
      first_empty : m.count a ≡ 0 → ⊥
      first_empty z =
          let n = excluded_ends net fits a b x in
          let u = raised a n.left z p in
          let v = raised b n.right (beside a b x z p) q in
          n.differ (sym ((s.rising a u.0 u.1).alone b v.0 v.1))

      first_held : 0 < m.count a → ⊥
      first_held h =
          ⊎_elim (λ z. let k = beside b a (excluded_sym net.rels a b x) z q in omega arith) (λ k. safe.apart a b x h k)
          (zero_or_pos (m.count b))

  fire_safe : Safe net m.count → Safe net (fire t m).count
  unfolding fire
  fire_safe safe =
      record {
        within = λ c h.
            let a = allowed net m t e c h in
            moved_within (m.count c) (capacity net c) (t.takes_context c) (t.gives_context c) (safe.within c h) a.taken a.spare;
        apart = fire_apart safe;
      }

-- the forced transition of a relation is one of the transitions
in_extras : (P : Transition → Type 0) (rels : List Relation) (k a b : ℕ) (t : Transition) → extra rels (record { kind = k; a = a; b = b }) ≡ t ∷ []
    → (rs : List Relation) → Each P (concat_map (extra rels) rs) → any (matches k a b) rs ≡ true → P t
in_extras P rels k a b t d [] all e = absurd (false≢true e)
in_extras P rels k a b t d (r ∷ rs) all e =
    ⊎_elim here (λ h. in_extras P rels k a b t d rs (each_right (extra rels r) (concat_map (extra rels) rs) all) h)
    (or_cases (matches k a b r) (any (matches k a b) rs) e)
  where
    one : Each P (t ∷ []) → P t
    one (cons p nil) = p

    here : matches k a b r ≡ true → P t
    here h =
        one
        (subst (Each P) (ap (extra rels) (matches_relation k a b r h) ∙ d)
        (each_left (extra rels r) (concat_map (extra rels) rs) all))

-- a forced transition that matches not ready where the temporary places are empty
forced_off : (net : Net) (m : Marking) (a b : ℕ) (pr : Set) → clear net m ≡ true → ready_of net m (forced net.rels a (singleton b) pr) ≡ false
    → 0 < m.count a → 0 < m.count b
unfolding forced ready ready_at clear
forced_off net m a b pr k f h = ⊎_elim (λ z. absurd (not_both (ready_of net m (forced net.rels a (singleton b) pr)) (would z) f)) (λ p. p) (zero_or_pos (m.count b))
  where
    would : m.count b ≡ 0 → ready_of net m (forced net.rels a (singleton b) pr) ≡ true
    would z =
        below_make (size net) (ready_at (below_capacity net m) m (forced net.rels a (singleton b) pr))
        (λ c l.
        six_make
        (imp_make (singleton a c) (λ e. lt-ltb 0 (m.count c) (subst (λ (x : ℕ). 0 < m.count x) (sym (eqb-true c a e)) h)))
        refl
        refl
        (imp_make (singleton b c) (λ e. eq-eqb (m.count c) 0 (ap m.count (eqb-true c b e) ∙ z)))
        (imp_make (pr c) (λ _. and_left (is_empty m.pr c) (is_empty m.pr_not c) (below_at (size net) (λ x. is_empty m.pr x && is_empty m.pr_not x) k c l)))
        refl)

-- what a step starts from
pub rules_apart : (net : Net) (m : Counts) → ((c : ℕ) → c < size net → m c ≤ capacity net c)
    → ((a b : ℕ) → related net.rels excludes a b ≡ true → Active m a → Active m b → ⊥) → Safe net m
unfolding excluded
rules_apart net m within apart =
    record {
      within = within;
      apart = λ a b e p q.
          ⊎_elim (λ x. apart a b x p q) (λ x. apart b a x q p) (or_cases (related net.rels excludes a b) (related net.rels excludes b a) e);
    }

pub zeros_rules : (net : Net) → Rules net zeros
zeros_rules net =
    record {
      within = λ c h. omega arith;
      excluding = λ a b e p q. omega arith;
      implying = λ a b e p. absurd (omega arith);
      requiring = λ a b e p. absurd (omega arith);
    }

-- of a marking at which no transition is enabled, with the temporary places empty
pub quiet_rules : (net : Net) (m : Marking) → Safe net m.count → next_of net m ≡ none → clear net m ≡ true → Rules net m.count
unfolding excluded related transitions_of extra_transitions extra
quiet_rules net m safe e k =
    let off : Transition → Type 0 = λ t. ready_of net m t ≡ false in
    let extras : Each off (extra_transitions net.rels) =
    each_right (concat_map (context_transitions net.rels) (range 0 (size net))) (extra_transitions net.rels) (none_ready net m e) in
    record {
      within = safe.within;
      excluding = λ a b x. safe.apart a b (or_left (related net.rels excludes b a) x);
      implying = λ a b x.
          forced_off net m a b (singleton b) k
          (in_extras off net.rels implies a b (forced net.rels a (singleton b) (singleton b)) refl net.rels extras x);
      requiring = λ a b x.
          forced_off net m a b empty_set k
          (in_extras off net.rels requires a b (forced net.rels a (singleton b) empty_set) refl net.rels extras x);
    }

module _ (net : Net) (fits : Fits net) where
  next_safe : (m : Marking) → Safe net m.count → (t : Transition) → next_of net m ≡ some t → Safe net (fire t m).count
  unfolding next enabled
  next_safe m safe t e =
      let x = first_each (enabled_of net m) (sound net) t e in
      fire_safe net fits m t x.1 (next_ready net m t e).0 safe

  step_safe : (m : Counts) → Safe net m → (r : Request) → Safe net (step_of net m r).marking.count
  unfolding initial_marking
  step_safe m safe r = run_keeps net (λ _ m'. Safe net m'.count) (λ _ m' t s e. next_safe m' s t e) step_limit 0 (initial_marking m r) safe

  -- a granted request keeps the rules
  pub grant_rules : (m : Counts) → Rules net m → (r : Request) → Grants net m r → Rules net (effect net m r).counts
  grant_rules m rules r g =
      let s = granted_step net m r g in
      subst (Rules net) (sym s.counts)
      (quiet_rules net (step_of net m r).marking (step_safe m (rules_apart net m rules.within rules.excluding) r) s.step.quiet.still s.step.cleared)

  pub reached_rules : {m₀ : Counts} → Rules net m₀ → {h : List Event} {m : Counts} → Reached net m₀ h m → Rules net m
  reached_rules r₀ start = r₀
  reached_rules r₀ (then {m = m} d r g) = grant_rules m (reached_rules r₀ d) r g

-- in a valid net every count is a byte
pub counts_bytes : (f : Format) (net : Net) → Valid f net → (m : Counts) → Rules net m → (c : ℕ) → c < size net → IsByte (m c)
counts_bytes f net v m rules c h =
    let p = rules.within c h in
    let q = each_get_or v.bytes c 0 h in
    omega arith
