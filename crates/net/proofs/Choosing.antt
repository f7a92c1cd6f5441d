-- Of a net's transitions the walk finds the one that fires next.
-- Assumes nothing.
use Prim.Native.Nat.{ℕ, zero, suc, ◌+◌, ◌*◌, ◌/◌, ◌≤◌, ◌<◌}
use mathlib.Core.Bool.{Bool, true, false, ◌&&◌, ◌||◌, not}
use mathlib.Core.Path.{◌≡◌, refl, sym, ap, ap₂, subst, ◌∙◌}
use mathlib.Core.Logic.{inl, inr}
use mathlib.Core.List.{List, [], ◌∷◌}
use mathlib.Core.Option.{none, some, none-ne-some, some-injective}
use Rattle.std.proofs.Common.{Option, Some, None}
use Rattle.std.specs.Option.{MatchOption}
use native.Mathlib.Decide.{ℕ_discrete, dec_lt}
use native.Mathlib.Nat.{le_of_suc-le-suc, not-suc-le-zero}
use native.Mathlib.Omega.{arith}
use borrow.Author.Tests.{lt-ltb, eq-eqb, eqb-true, le-leb, leb-true}
use lib.Dec.{eqb, leb}
use lib.ListN.{length, get_or, get_elem?}
use Rattle.sets.specs.Sets.{members, upto}
use Rattle.sets.proofs.Laws.{contained, same_bool}
use Rattle.model.specs.Sets.{Set, number, ◌⇒◌}
use Rattle.model.specs.Relations as model
use Rattle.model.specs.Relations.{size, related, requires}
use Rattle.model.specs.Transitions.{Transition, act, deac, transitions}
use Rattle.model.specs.Firing.{Marking, holds_token, is_empty, below_capacity, ready_at, ready, next_of, first}
use Rattle.model.specs.Claims.{Fits}
use Rattle.model.proofs.Tests.{and_right, and_both, or_left, or_right, imp_use, six, below_at, each_get_or}
use Rattle.model.proofs.Ready.{related_ends}
use Rattle.model.proofs.Bounds.{bounded}
use Rattle.model.proofs.Numbering.{act_number, deac_number}
use Rattle.model.proofs.Walks.{two_priorities, urgent, next_urgent, next_other}
use Rattle.net.specs.Tables.{row, blank, Stores}
use Rattle.net.specs.Markings.{Shows}
use Rattle.net.specs.Walks.{ready_row, urgent_row, movable, own_at, Finds, Prefers, FindsOwn, PrefersUrgent, Fires, Chooses}
use Rattle.net.specs.declared.marked.Marked.{Marked}
use Rattle.net.specs.declared.table.Table.{Table}
use Rattle.net.proofs.Finding.{own_passing, extra_passing}
use Rattle.net.proofs.Readiness.{passes_ready}

-- the first of a list that passes a test, by its number
pub lowest : (f : Transition → Bool) (ts : List Transition) (i : ℕ) → i < length ts → f (get_or ts i blank) ≡ true
    → ((j : ℕ) → j < i → f (get_or ts j blank) ≡ false) → first f ts ≡ some (get_or ts i blank)
lowest f [] i h e k = absurd (not-suc-le-zero h)
lowest f (u ∷ ts) zero h e k = rw (e, first) refl
lowest f (u ∷ ts) (suc i) h e k = rw (k zero (omega arith), first) (lowest f ts i (le_of_suc-le-suc h) e (λ j l. k (suc j) (omega arith)))

pub none_passes : (f : Transition → Bool) (ts : List Transition) → ((j : ℕ) → j < length ts → f (get_or ts j blank) ≡ false) → first f ts ≡ none
none_passes f [] k = refl
none_passes f (u ∷ ts) k = rw (k zero (omega arith), first) (none_passes f ts (λ j l. k (suc j) (omega arith)))

-- an element that is there
some_at : (ts : List Transition) (i : ℕ) (u : Transition) → get_elem? ts i ≡ some u → (i < length ts) × (get_or ts i blank ≡ u)
some_at [] i u e = absurd (none-ne-some u e)
some_at (v ∷ ts) zero u e = (omega arith, some-injective v u e)
some_at (v ∷ ts) (suc i) u e = let h = some_at ts i u e in let k = h.0 in (omega arith, h.1)

-- what is ready has tokens on the places that it takes, and room where it gives without taking
module _ (n : ℕ) (spare : Set) (m : Marking) (t : Transition) (e : ready n spare m t ≡ true) (c : ℕ) (h : c < n) where
  takes_at : (t.takes_pr c ≡ true → holds_token m.pr c ≡ true) × (t.takes_not c ≡ true → holds_token m.pr_not c ≡ true)
      × (t.takes_context c ≡ true → holds_token m.count c ≡ true) × ((t.gives_context c && not (t.takes_context c)) ≡ true → spare c ≡ true)
  unfolding ready ready_at
  takes_at =
      let q = six (t.takes_context c ⇒ holds_token m.count c) (t.takes_pr c ⇒ holds_token m.pr c) (t.takes_not c ⇒ holds_token m.pr_not c)
      (t.inhib_context c ⇒ is_empty m.count c) (t.inhib_pr c ⇒ is_empty m.pr c) ((t.gives_context c && not (t.takes_context c)) ⇒ spare c)
      (below_at n (ready_at spare m t) e c h) in
      (imp_use (t.takes_pr c) (holds_token m.pr c) q.1, imp_use (t.takes_not c) (holds_token m.pr_not c) q.2, imp_use (t.takes_context c) (holds_token m.count c) q.0, imp_use (t.gives_context c && not (t.takes_context c)) (spare c) q.5)

module _ (net : model.Net) (fits : Fits net) (few : size net ≤ 48) {table : Table} (tab : Stores table (transitions net)) {m : Marking} {s : Marked}
    (sh : Shows (size net) m s) {w : ℕ} (room : w ≡ number 64 (upto (size net) (below_capacity net m))) where
  abbrev ts : List Transition
  ts = transitions net

  abbrev n : ℕ
  n = size net

  abbrev t : ℕ
  t = table.count

  abbrev spare : Set
  spare = below_capacity net m

  abbrev ready_here : Transition → Bool
  ready_here = ready n spare m

  row_ready : (i : ℕ) → i < t → ready_row table s w i ≡ ready_here (get_or ts i blank)
  unfolding ready_row
  row_ready i h =
      passes_ready n (omega arith) spare m s sh room (row table i) (get_or ts i blank) (tab.at i h)
      (each_get_or (bounded net fits) i blank (omega (arith, tab.count)))

  -- a context's places, where they hold a token, and the context itself, where it has room
  in_word : {w : ℕ} (f : Set) → w ≡ number 64 (upto n f) → (c : ℕ) → c < n → f c ≡ true → members w c ≡ true
  in_word f q c h e = contained 64 (upto n f) q c (omega arith) ∙ and_both (lt-ltb c n h) e

  may_rise : (c : ℕ) → c < n → holds_token m.pr c ≡ true → spare c ≡ true → movable s w c ≡ true
  unfolding movable
  may_rise c h e f =
      or_left (members s.pr_not c && members s.context c) (and_both (in_word (holds_token m.pr) sh.pr c h e) (in_word spare room c h f))

  may_fall : (c : ℕ) → c < n → holds_token m.pr_not c ≡ true → holds_token m.count c ≡ true → movable s w c ≡ true
  unfolding movable
  may_fall c h e f =
      or_right (members s.pr c && members w c) (and_both (in_word (holds_token m.pr_not) sh.pr_not c h e) (in_word (holds_token m.count) sh.context c h f))

  -- act(c) does not take the token that it gives to c: nothing requires itself
  gives_only : (c : ℕ) → ((act net.rels c).gives_context c && not ((act net.rels c).takes_context c)) ≡ true
  unfolding act
  gives_only c = go (related net.rels requires c c) refl
    where
      go : (b : Bool) → related net.rels requires c c ≡ b → ((eqb c c || related net.rels requires c c) && not (related net.rels requires c c)) ≡ true
      go true e = absurd ((related_ends net fits requires c c e).differ refl)
      go false e = rw (e, eq-eqb c c refl)

  -- a transition of context c: it stands in the list, is of priority 2, and where it is ready c is one of the contexts that are looked at
  record Own (c i : ℕ) : Type 0 where
    inside : i < length ts
    high : (get_or ts i blank).priority ≡ 2
    able : ready_here (get_or ts i blank) ≡ true → movable s w c ≡ true

  act_own : (c : ℕ) → c < n → Own c (2 * c)
  unfolding act
  act_own c h =
      let p = some_at ts (2 * c) (act net.rels c) (act_number net c h) in
      record {
        inside = p.0;
        high = ap (λ (u : Transition). u.priority) p.1;
        able = λ e. let k = takes_at n spare m (act net.rels c) (subst (λ (u : Transition). ready_here u ≡ true) p.1 e) c h in may_rise c h (k.0 (eq-eqb c c refl)) (k.3 (gives_only c));
      }

  deac_own : (c : ℕ) → c < n → Own c (2 * c + 1)
  unfolding deac
  deac_own c h =
      let p = some_at ts (2 * c + 1) (deac net.rels c) (deac_number net c h) in
      record {
        inside = p.0;
        high = ap (λ (u : Transition). u.priority) p.1;
        able = λ e. let k = takes_at n spare m (deac net.rels c) (subst (λ (u : Transition). ready_here u ≡ true) p.1 e) c h in may_fall c h (k.1 (eq-eqb c c refl)) (k.2 (eq-eqb c c refl));
      }

  own : (i : ℕ) → i < 2 * n → Own (i / 2) i
  own i h = go (ℕ_discrete i (2 * (i / 2)))
    where
      go : Dec (i ≡ 2 * (i / 2)) → Own (i / 2) i
      go (yes e) = subst (Own (i / 2)) (sym e) (act_own (i / 2) (omega arith))
      go (no d) = let e : 2 * (i / 2) + 1 ≡ i = omega arith in subst (Own (i / 2)) e (deac_own (i / 2) (omega arith))

  -- the walk's tests are the model's
  able_ready : (i : ℕ) → i < 2 * n → own_at table s w i ≡ ready_here (get_or ts i blank)
  able_ready i h =
      let o = own i h in
      let q = row_ready i (omega (arith, o.inside, tab.count)) in
      same_bool (own_at table s w i) (ready_here (get_or ts i blank))
      (λ e. sym q ∙ and_right (movable s w (i / 2)) (ready_row table s w i) e)
      (λ e. and_both (o.able e) (q ∙ e))

  abbrev urgent_here : Transition → Bool
  urgent_here = urgent n spare m

  priorities : (p : ℕ) → p ≤ 2 → leb 2 p ≡ eqb p 2
  priorities p h = same_bool (leb 2 p) (eqb p 2) (λ e. let k = leb-true 2 p e in eq-eqb p 2 (omega arith)) (λ e. let k = eqb-true p 2 e in le-leb 2 p (omega arith))

  high_urgent : (i : ℕ) → i < t → urgent_row table s w i ≡ urgent_here (get_or ts i blank)
  high_urgent i h =
      ap₂ (λ (x y : Bool). x && y) (row_ready i h)
      (ap (leb 2) (tab.at i h).priority ∙ priorities (get_or ts i blank).priority (each_get_or (two_priorities net) i blank (omega (arith, tab.count))).low)

  not_urgent : (u : Transition) → ready_here u ≡ false → urgent_here u ≡ false
  not_urgent u e = ap (λ (b : Bool). b && eqb u.priority 2) e

  -- one of the contexts' own
  pub fires_own : (i : ℕ) → Finds (Some i) 0 (2 * n) (own_at table s w) → Fires (Some i) net m
  unfolding Finds Fires
  fires_own i f =
      let h = f.1 in
      let o = own i h in (
        o.inside,
        next_urgent n spare m ts (two_priorities net) (get_or ts i blank)
            (lowest urgent_here ts i o.inside (and_both (sym (able_ready i h) ∙ f.2) (eq-eqb (get_or ts i blank).priority 2 o.high))
            (λ j l. not_urgent (get_or ts j blank) (sym (able_ready j (omega arith)) ∙ f.3 j (omega arith) l))),
      )

  -- or, where none of these is ready, one of the others
  module _ (f : Finds None 0 (2 * n) (own_at table s w)) where
    none_own : (j : ℕ) → j < 2 * n → ready_here (get_or ts j blank) ≡ false
    unfolding Finds
    none_own j h = sym (able_ready j h) ∙ f j (omega arith) h

    below_urgent : (i : ℕ) → i ≤ t → ((j : ℕ) → 2 * n ≤ j → j < i → urgent_row table s w j ≡ false) → (j : ℕ) → j < i → urgent_here (get_or ts j blank) ≡ false
    below_urgent i b p j l = go (dec_lt j (2 * n))
      where
        go : Dec (j < 2 * n) → urgent_here (get_or ts j blank) ≡ false
        go (yes h) = not_urgent (get_or ts j blank) (none_own j h)
        go (no h) = sym (high_urgent j (omega arith)) ∙ p j (omega arith) l

    below_ready : (i : ℕ) → i ≤ t → ((j : ℕ) → 2 * n ≤ j → j < i → ready_row table s w j ≡ false) → (j : ℕ) → j < i → ready_here (get_or ts j blank) ≡ false
    below_ready i b p j l = go (dec_lt j (2 * n))
      where
        go : Dec (j < 2 * n) → ready_here (get_or ts j blank) ≡ false
        go (yes h) = none_own j h
        go (no h) = sym (row_ready j (omega arith)) ∙ p j (omega arith) l

    no_urgent : ((j : ℕ) → 2 * n ≤ j → j < t → urgent_row table s w j ≡ false) → next_of net m ≡ first ready_here ts
    no_urgent p =
        next_other n spare m ts (two_priorities net)
        (none_passes urgent_here ts (λ j l. below_urgent t (omega arith) p j (omega (arith, tab.count))))

    pub fires_extra : (r : Option ℕ) → Prefers r (2 * n) t (urgent_row table s w) (ready_row table s w) → Fires r net m
    unfolding Finds Prefers Fires
    fires_extra (Some i) (inl g) =
        let h = g.1 in
        let k : i < length ts = omega (arith, tab.count) in
        (k, next_urgent n spare m ts (two_priorities net) (get_or ts i blank) (lowest urgent_here ts i k (sym (high_urgent i h) ∙ g.2) (below_urgent i (omega arith) g.3)))
    fires_extra (Some i) (inr (p, g)) =
        let h = g.1 in
        let k : i < length ts = omega (arith, tab.count) in
        (k, no_urgent p ∙ lowest ready_here ts i k (sym (row_ready i h) ∙ g.2) (below_ready i (omega arith) g.3))
    fires_extra None g =
        let none : (j : ℕ) → j < length ts → ready_here (get_or ts j blank) ≡ false = λ j l. below_ready t (omega arith) g j (omega (arith, tab.count)) in
        next_other n spare m ts (two_priorities net) (none_passes urgent_here ts (λ j l. not_urgent (get_or ts j blank) (none j l)))
        ∙ none_passes ready_here ts none

-- the same of any arrays, for every net that stands in them
module _ {n : ℕ} (few : n ≤ 48) (table : Table) (s : Marked) (w : ℕ) where
  module _ (whole : model.Net) (m : Marking) (sized : size whole ≡ n) (fits : Fits whole) (tab : Stores table (transitions whole))
      (sh : Shows n m s) (room : w ≡ number 64 (upto n (below_capacity whole m))) where
    abbrev same : n ≡ size whole
    same = sym sized

    few_of : size whole ≤ 48
    few_of = omega (arith, sized, few)

    abbrev shown : Shows (size whole) m s
    shown = subst (λ (k : ℕ). Shows k m s) same sh

    abbrev below : w ≡ number 64 (upto (size whole) (below_capacity whole m))
    below = subst (λ (k : ℕ). w ≡ number 64 (upto k (below_capacity whole m))) same room

    with_own : (i : ℕ) → FindsOwn n table s w (Some i) → Fires (Some i) whole m
    with_own i f =
        fires_own whole fits few_of tab shown below i (subst (λ (k : ℕ). Finds (Some i) 0 (2 * k) (own_at table s w)) same f)

    with_extra : FindsOwn n table s w None → (r : Option ℕ) → PrefersUrgent n table s w r → Fires r whole m
    with_extra f r p =
        fires_extra whole fits few_of tab shown below (subst (λ (k : ℕ). Finds None 0 (2 * k) (own_at table s w)) same f) r
        (subst (λ (k : ℕ). Prefers r (2 * k) table.count (urgent_row table s w) (ready_row table s w)) same p)

  -- the first own one that is ready, and else one of the others
  pub chooses_first : (own r : Option ℕ) → FindsOwn n table s w own → MatchOption own (PrefersUrgent n table s w r) (λ i. r ≡ Some i) → Chooses n table s w r
  chooses_first (Some i) r f e =
      rw e (record { passing = own_passing few table s w i f; fires = λ whole m sized fits tab sh room. with_own whole m sized fits tab sh room i f })
  chooses_first None r f p =
      record { passing = extra_passing few table s w r p; fires = λ whole m sized fits tab sh room. with_extra whole m sized fits tab sh room f r p }
