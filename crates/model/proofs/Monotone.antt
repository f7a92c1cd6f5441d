-- In a net without suggestions an activation lowers no count, forces none and never meets 15, and its firings are at most the room that the
-- counts leave; in any net a deactivation raises no count.
-- Assumes nothing.
use Prim.Native.Nat.{ℕ, zero, suc, ◌+◌, ◌-◌, ◌<◌, ◌≤◌}
use native.Mathlib.Nat.{le_of_suc-le-suc, eq-or-lt_of_le, zero-add}
use native.Mathlib.Omega.{arith}
use mathlib.Core.Path.{◌≡◌, refl, sym, subst, ap, ap₂}
use mathlib.Core.Logic.{◌⊎◌, inl, inr, ⊎_elim, ◌≢◌}
use mathlib.Core.Bool.{Bool, true, false, ◌&&◌, ◌||◌, false≢true, true≢false}
use mathlib.Core.Option.{some}
use lib.Dec.{eqb}
use lib.ListN.{length}
use borrow.Author.Tests.{eqb-true, eq-eqb, ne_eqb}
use Rattle.model.specs.Sets.{singleton, empty_set, bit}
use Rattle.model.specs.Relations.{Net, size, capacity, matches, related, causes, implies, requires, suggests}
use Rattle.model.specs.declared.Relation.{Relation}
use Rattle.model.specs.Transitions.{Transition, is_forced, asks_on, act, deac, forced, drop_of, decline_of}
use Rattle.model.specs.Firing.{Marking, Outcome, is_empty, ready_of, next_of, fire, step_limit, clear}
use Rattle.model.specs.Machine.{Counts, activation, deactivation, initial_marking, step_of, effect}
use Rattle.model.specs.Claims.{Fits, SuggestsNone, Rules}
use Rattle.model.specs.declared.Verdict.TheVariants.{Refused}
use Rattle.model.proofs.Tests.{and_left, or_left, or_right, not_true, not_both, decide, zero_or_pos, any_false, any_each, below_at, none_passing}
use Rattle.model.proofs.Ready.{related_ends, allowed, next_ready, singleton_self, forced_finds}
use Rattle.model.proofs.Runs.{run_keeps, run_each}
use Rattle.model.proofs.Effects.{granted_step, effect_firings, explained}
use Rattle.model.proofs.Replay.{Grants}
use Rattle.model.proofs.Shapes.{Shape, is_act, is_deac, is_drop, is_implied, is_required, is_decline}
use Rattle.model.specs.declared.Refusal.TheVariants.{StepLimitMet, NotRaised}

-- what holds, in a net without suggestions, of every marking of an activation's step that begins at the counts m₀
record Up (net : Net) (m₀ : Counts) (m : Marking) : Type 0 where
  kept : (c : ℕ) → m₀ c ≤ m.count c
  no_not : (c : ℕ) → m.pr_not c ≡ 0
  implying : (a b : ℕ) → related net.rels implies a b ≡ true → 0 < m.count a → (0 < m.count b) ⊎ (0 < m.pr b)
  requiring : (a b : ℕ) → related net.rels requires a b ≡ true → 0 < m.count a → 0 < m.count b

-- what a request asked on is still asked, or has come
abbrev Asked : Counts → ℕ → Marking → Type 0
Asked m₀ q m = (0 < m.pr q) ⊎ (m₀ q < m.count q)

none_suggested : (net : Net) → SuggestsNone net → (a b : ℕ) → related net.rels suggests a b ≡ true → ⊥
unfolding related matches
none_suggested net f a b e =
    let x = any_each (matches suggests a b) (any_false (λ (r : Relation). eqb r.kind suggests) net.rels f) e in
    let r = x.0 in
    let t = eqb r.kind suggests && eqb r.a a in
    not_both (eqb r.kind suggests) (and_left (eqb r.kind suggests) (eqb r.a a) (and_left t (eqb r.b b) x.1)) x.2

-- the tokens of a place that is given where it is taken, or by itself
moved_exact : (x : ℕ) (t o : Bool) → (t ≡ true → 0 < x) → (t ≡ true → o ≡ false) → x - bit t + bit (o || t) ≡ x + bit o
moved_exact x true true a k = absurd (true≢false (k refl))
moved_exact x true false a k = let p = a refl in omega arith
moved_exact x false true a k = omega arith
moved_exact x false false a k = omega arith

moved_given : (x : ℕ) (t g : Bool) → g ≡ true → 0 < x - bit t + bit g
moved_given x t true k = omega arith
moved_given x t false k = absurd (false≢true k)

moved_not_taken : (x : ℕ) (t g : Bool) → t ≡ false → x ≤ x - bit t + bit g
moved_not_taken x true g k = absurd (true≢false k)
moved_not_taken x false g k = omega arith

bit_pos : (b : Bool) → 0 < bit b → b ≡ true
bit_pos true h = refl
bit_pos false h = absurd (omega arith)

module _ (net : Net) (fits : Fits net) (m₀ : Counts) (m : Marking) (up : Up net m₀ m) (c : ℕ) (h : c < size net) (e : ready_of net m (act net.rels c) ≡ true) where
  abbrev after_act : Marking
  after_act = fire (act net.rels c) m

  -- act(c) raises the count of c by 1, and no other
  act_count : (x : ℕ) → after_act.count x ≡ m.count x + bit (singleton c x)
  unfolding fire act
  act_count x =
      moved_exact (m.count x) (related net.rels requires c x) (singleton c x)
      (λ k. (allowed net m (act net.rels c) e x (related_ends net fits requires c x k).right).taken k)
      (λ k. ne_eqb x c (λ p. (related_ends net fits requires c x k).differ (sym p)))

  act_keeps : (x : ℕ) → m.count x ≤ after_act.count x
  act_keeps x = let p = act_count x in omega arith

  act_gives : 0 < after_act.count c
  act_gives =
      let p = act_count c in
      let q = ap bit (eq-eqb c c refl) in
      omega arith

  -- singleton c is active that was not
  act_new : (a : ℕ) → m.count a ≡ 0 → 0 < after_act.count a → a ≡ c
  act_new a z p = let q = act_count a in eqb-true a c (bit_pos (singleton c a) (omega arith))

  asked_pr : (b : ℕ) → asks_on net.rels c b ≡ true → 0 < after_act.pr b
  unfolding fire act
  asked_pr b k = moved_given (m.pr b) (singleton c b) (asks_on net.rels c b) k

  kept_pr : (b : ℕ) → singleton c b ≡ false → 0 < m.pr b → 0 < after_act.pr b
  unfolding fire act
  kept_pr b k p = let q = moved_not_taken (m.pr b) (singleton c b) (asks_on net.rels c b) k in omega arith

  act_not : (x : ℕ) → after_act.pr_not x ≡ 0
  unfolding fire act
  act_not x = let p = up.no_not x in omega arith

  asks_implied : (b : ℕ) → related net.rels implies c b ≡ true → asks_on net.rels c b ≡ true
  unfolding asks_on
  asks_implied b r = or_left (related net.rels suggests c b) (or_right (related net.rels causes c b) r)

  act_implying : (a b : ℕ) → related net.rels implies a b ≡ true → 0 < after_act.count a → (0 < after_act.count b) ⊎ (0 < after_act.pr b)
  act_implying a b r p =
      ⊎_elim (λ z. inr (asked_pr b (asks_implied b (subst (λ (x : ℕ). related net.rels implies x b ≡ true) (act_new a z p) r))))
      (λ q. ⊎_elim (λ k. let l = act_keeps b in inl (omega arith)) pending (up.implying a b r q)) (zero_or_pos (m.count a))
    where
      pending : 0 < m.pr b → (0 < after_act.count b) ⊎ (0 < after_act.pr b)
      pending k =
          ⊎_elim (λ f. inl (subst (λ (x : ℕ). 0 < after_act.count x) (sym (eqb-true b c f)) act_gives)) (λ f. inr (kept_pr b f k)) (decide (singleton c b))

  act_requires : (a b : ℕ) → related net.rels requires a b ≡ true → m.count a ≡ 0 → 0 < after_act.count a → 0 < m.count b
  unfolding act
  act_requires a b r z p =
      (allowed net m (act net.rels c) e b (related_ends net fits requires a b r).right).taken
      (subst (λ (x : ℕ). related net.rels requires x b ≡ true) (act_new a z p) r)

  act_up : Up net m₀ after_act
  act_up =
      record {
        kept = λ x.
            let p = up.kept x in
            let q = act_keeps x in
            omega arith;
        no_not = act_not;
        implying = act_implying;
        requiring = λ a b r p.
            let k = act_keeps b in
            ⊎_elim (λ z. let q = act_requires a b r z p in omega arith) (λ q. let l = up.requiring a b r q in omega arith) (zero_or_pos (m.count a));
      }

  act_asked : (q : ℕ) → Asked m₀ q m → Asked m₀ q after_act
  act_asked q w = ⊎_elim (λ f. inr (came (eqb-true q c f))) (λ f. ⊎_elim (λ p. inl (kept_pr q f p)) (λ l. let k = act_keeps q in inr (omega arith)) w) (decide (singleton c q))
    where
      came : q ≡ c → m₀ q < after_act.count q
      came d =
          let p = up.kept q in
          let k = act_count q in
          let b = ap bit (eq-eqb q c d) in
          omega arith

  act_spare : m.count c < capacity net c
  unfolding act
  act_spare =
      (allowed net m (act net.rels c) e c h).spare (or_left (related net.rels requires c c) (eq-eqb c c refl))
      (not_true (related net.rels requires c c) (λ k. (related_ends net fits requires c c k).differ refl))

-- the sum of f over the numbers below n
abbrev pub total : ℕ → (ℕ → ℕ) → ℕ
total zero f = 0
total (suc n) f = total n f + f n

total_same : (n : ℕ) (f g : ℕ → ℕ) → ((x : ℕ) → x < n → f x ≡ g x) → total n f ≡ total n g
total_same zero f g k = refl
total_same (suc n) f g k = ap₂ (λ (a b : ℕ). a + b) (total_same n f g (λ x l. k x (omega arith))) (k n (omega arith))

total_less : (n : ℕ) (f g : ℕ → ℕ) (c : ℕ) → c < n → f c ≡ suc (g c) → ((x : ℕ) → (x ≡ c → ⊥) → f x ≡ g x) → total n f ≡ suc (total n g)
total_less zero f g c l p k = absurd (omega arith)
total_less (suc n) f g c l p k =
    ⊎_elim
    (λ (d : c ≡ n).
    let q = total_same n f g (λ x i. k x (λ j. omega arith)) in
    let r : f n ≡ suc (g n) = subst (λ (x : ℕ). f x ≡ suc (g x)) d p in
    omega arith)
    (λ (d : c < n).
    let q = total_less n f g c d p k in
    let r = k n (λ j. omega arith) in
    omega arith)
    (eq-or-lt_of_le (le_of_suc-le-suc l))

-- the room that the counts leave below the capacities
unfoldable pub left_over : Net → Counts → ℕ
left_over net m = total (size net) (λ c. capacity net c - m c)

act_left : (net : Net) (fits : Fits net) (m₀ : Counts) (m : Marking) → Up net m₀ m → (c : ℕ) → c < size net → ready_of net m (act net.rels c) ≡ true
    → left_over net m.count ≡ suc (left_over net (fire (act net.rels c) m).count)
unfolding left_over
act_left net fits m₀ m up c h e =
    total_less (size net) (λ x. capacity net x - m.count x) (λ x. capacity net x - (fire (act net.rels c) m).count x) c h
    (let p = act_count net fits m₀ m up c h e c in
    let q = ap bit (eq-eqb c c refl) in
    let s = act_spare net fits m₀ m up c h e in
    omega arith)
    (λ x d.
    let p = act_count net fits m₀ m up c h e x in
    let q = ap bit (ne_eqb x c d) in
    omega arith)

record Rose (net : Net) (m₀ : Counts) (m : Marking) (t : Transition) : Type 0 where
  up : Up net m₀ (fire t m)
  spent : left_over net m.count ≡ suc (left_over net (fire t m).count)
  unforced : is_forced t ≡ false
  asked : (q : ℕ) → Asked m₀ q m → Asked m₀ q (fire t m)

-- in such a net only an act(c) fires in an activation's step
shape_rose : (net : Net) → Fits net → SuggestsNone net → (m₀ : Counts) (m : Marking) → Up net m₀ m → {t : Transition} → Shape net t → ready_of net m t ≡ true → Rose net m₀ m t
unfolding act deac drop_of forced
shape_rose net fits none m₀ m up (is_act c h) e = record { up = act_up net fits m₀ m up c h e; spent = act_left net fits m₀ m up c h e; unforced = refl; asked = act_asked net fits m₀ m up c h e }
shape_rose net fits none m₀ m up (is_deac c h) e =
    let p = (allowed net m (deac net.rels c) e c h).taken_not (singleton_self c) in
    let q = up.no_not c in
    absurd (omega arith)
shape_rose net fits none m₀ m up (is_drop a b r) e =
    let p = (allowed net m (drop_of b) e b (related_ends net fits causes a b r).right).taken_not (singleton_self b) in
    let q = up.no_not b in
    absurd (omega arith)
shape_rose net fits none m₀ m up (is_implied a b r) e =
    let n = related_ends net fits implies a b r in
    let q = forced_finds net m a b (singleton b) n e in
    let s : m.pr b ≡ 0 = (allowed net m (forced net.rels a (singleton b) (singleton b)) e b n.right).blocked_pr (singleton_self b) in
    absurd (⊎_elim (λ k. omega (arith, q.1)) (λ k. omega arith) (up.implying a b r q.0))
shape_rose net fits none m₀ m up (is_required a b r) e =
    let q = forced_finds net m a b empty_set (related_ends net fits requires a b r) e in
    let k = up.requiring a b r q.0 in
    absurd (omega (arith, q.1))
shape_rose net fits none m₀ m up (is_decline a b r) e = absurd (none_suggested net none a b r)

next_rose : (net : Net) → Fits net → SuggestsNone net → (m₀ : Counts) (m : Marking) → Up net m₀ m → (t : Transition) → next_of net m ≡ some t → Rose net m₀ m t
next_rose net fits none m₀ m up t e = let x = next_ready net m t e in shape_rose net fits none m₀ m up x.1 x.0

-- of the step of an activation of c, after k firings
record Rises (net : Net) (m₀ : Counts) (c k : ℕ) (m : Marking) : Type 0 where
  up : Up net m₀ m
  spent : k + left_over net m.count ≡ left_over net m₀
  asked : Asked m₀ c m

-- an activation at counts at which the rules hold, in a net without suggestions
module _ (net : Net) (fits : Fits net) (none : SuggestsNone net) (m : Counts) (rules : Rules net m) (c : ℕ) where
  abbrev end : Outcome
  end = step_of net m (activation c)

  begins : Up net m (initial_marking m (activation c))
  unfolding initial_marking
  begins =
      record {
        kept = λ x. omega arith;
        no_not = λ x. refl;
        implying = λ a b r p. inl (rules.implying a b r p);
        requiring = λ a b r p. rules.requiring a b r p;
      }

  asked_first : Asked m c (initial_marking m (activation c))
  unfolding initial_marking
  asked_first = let b = ap bit (eq-eqb c c refl) in inl (omega arith)

  rises : Rises net m c (length end.fired) end.marking
  unfolding initial_marking
  rises =
      subst (λ (k : ℕ). Rises net m c k end.marking) (zero-add (length end.fired))
      (run_keeps net (Rises net m c)
      (λ k m' t s e.
      let q = next_rose net fits none m m' s.up t e in
      let a = q.spent in
      let b = s.spent in
      record { up = q.up; spent = omega arith; asked = q.asked c s.asked })
      step_limit 0 (initial_marking m (activation c)) (record { up = begins; spent = zero-add (left_over net m); asked = asked_first }))

  -- a granted activation leaves no count lower
  pub activation_lowers_none : Grants net m (activation c) → (x : ℕ) → m x ≤ (effect net m (activation c)).counts x
  activation_lowers_none g x =
      subst (λ (f : Counts). m x ≤ f x) (sym (granted_step net m (activation c) g).counts) (rises.up.kept x)

  -- its firings are bounded by the room that all contexts together have
  pub activation_firings : (effect net m (activation c)).answer.firings ≤ left_over net m
  activation_firings =
      let s = rises.spent in
      effect_firings net m (activation c) (λ k j. k ≤ left_over net m) (omega arith) (omega arith)

  -- and none of them is forced
  pub activation_forces_none : (effect net m (activation c)).answer.forced ≡ 0
  activation_forces_none =
      effect_firings net m (activation c) (λ k j. j ≡ 0) refl
      (none_passing is_forced
      (run_each net (Up net m) (λ t. is_forced t ≡ false) (λ m' t up e. let q = next_rose net fits none m m' up t e in (q.unforced, q.up)) step_limit
      (initial_marking m (activation c)) begins))

  -- and where that room is no more than a step may fire, it never meets 11
  pub activation_ends : left_over net m ≤ step_limit → (effect net m (activation c)).answer.verdict ≢ Refused StepLimitMet
  activation_ends l e =
      let u = ((explained net m (activation c)).eleven.0 e).1 in
      let s = rises.spent in
      let q = (next_rose net fits none m end.marking rises.up u.enabled.0 u.enabled.1).spent in
      let k = u.firings in
      absurd (omega arith)

  -- nor 15: where no temporary place is marked, what was asked on has come
  pub activation_raises : (effect net m (activation c)).answer.verdict ≢ Refused NotRaised
  unfolding clear
  activation_raises e =
      let x = (explained net m (activation c)).fifteen.0 e in
      let d = end.marking in
      let p = below_at (size net) (λ y. is_empty d.pr y && is_empty d.pr_not y) x.1.cleared c x.0.inside in
      let z = eqb-true (d.pr c) 0 (and_left (is_empty d.pr c) (is_empty d.pr_not c) p) in
      let l = x.2.no_higher in
      ⊎_elim (λ h. omega arith) (λ h. omega arith) rises.asked

-- what holds of every marking of a deactivation's step that begins at the counts m₀
record Down (m₀ : Counts) (m : Marking) : Type 0 where
  lowered : (c : ℕ) → m.count c ≤ m₀ c
  no_pr : (c : ℕ) → m.pr c ≡ 0

sinks : (m₀ : Counts) (m : Marking) → Down m₀ m → (t : Transition) → ((x : ℕ) → t.gives_context x ≡ false) → ((x : ℕ) → t.gives_pr x ≡ false) → Down m₀ (fire t m)
unfolding fire
sinks m₀ m down t p q =
    record {
      lowered = λ c.
          let k = ap bit (p c) in
          let l = down.lowered c in
          omega arith;
      no_pr = λ c.
          let k = ap bit (q c) in
          let l = down.no_pr c in
          omega arith;
    }

shape_sank : (net : Net) → Fits net → (m₀ : Counts) (m : Marking) → Down m₀ m → {t : Transition} → Shape net t → ready_of net m t ≡ true → Down m₀ (fire t m)
unfolding act deac drop_of decline_of forced
shape_sank net fits m₀ m down (is_act c h) e =
    let p = (allowed net m (act net.rels c) e c h).taken_pr (singleton_self c) in
    let q = down.no_pr c in
    absurd (omega arith)
shape_sank net fits m₀ m down (is_deac c h) e = sinks m₀ m down (deac net.rels c) (λ x. refl) (λ x. refl)
shape_sank net fits m₀ m down (is_drop a b r) e = sinks m₀ m down (drop_of b) (λ x. refl) (λ x. refl)
shape_sank net fits m₀ m down (is_implied a b r) e = sinks m₀ m down (forced net.rels a (singleton b) (singleton b)) (λ x. refl) (λ x. refl)
shape_sank net fits m₀ m down (is_required a b r) e = sinks m₀ m down (forced net.rels a (singleton b) empty_set) (λ x. refl) (λ x. refl)
shape_sank net fits m₀ m down (is_decline a b r) e = sinks m₀ m down (decline_of b) (λ x. refl) (λ x. refl)

next_sank : (net : Net) → Fits net → (m₀ : Counts) (m : Marking) → Down m₀ m → (t : Transition) → next_of net m ≡ some t → Down m₀ (fire t m)
next_sank net fits m₀ m down t e = let x = next_ready net m t e in shape_sank net fits m₀ m down x.1 x.0

-- a granted deactivation leaves no count higher
pub deactivation_raises_none : (net : Net) → Fits net → (m : Counts) (c : ℕ) → Grants net m (deactivation c) → (x : ℕ) → (effect net m (deactivation c)).counts x ≤ m x
unfolding initial_marking
deactivation_raises_none net fits m c g x =
    subst (λ (f : Counts). f x ≤ m x) (sym (granted_step net m (deactivation c) g).counts)
    ((run_keeps net (λ _ m'. Down m m') (λ _ m' t d e. next_sank net fits m m' d t e) step_limit 0 (initial_marking m (deactivation c))
    (record { lowered = λ x. omega arith; no_pr = λ x. refl })).lowered x)
