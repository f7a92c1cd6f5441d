-- Each transition of a net is one of six: act, deac, drop, the forced ones of an implication and of a requirement, and decline.
-- Assumes nothing.
use Prim.Native.Nat.{ℕ, ◌<◌}
use native.Mathlib.Omega.{arith}
use mathlib.Core.Path.{◌≡◌, refl, subst}
use mathlib.Core.Bool.{Bool, true, false, cond}
use mathlib.Core.List.{List, [], ◌∷◌}
use lib.Dec.{eqb}
use borrow.Author.Tests.{eqb-true, eq-eqb}
use Rattle.model.specs.Sets.{any, singleton, empty_set, Each, nil, cons}
use Rattle.model.specs.Relations.{Net, size, matches, related, causes, implies, requires, suggests}
use Rattle.model.specs.declared.Relation.{Relation}
use Rattle.model.specs.Transitions.{Transition, act, deac, forced, drop_of, decline_of, extra, context_transitions, extra_transitions, transitions_of, transitions}
use Rattle.model.proofs.Tests.{and_both, or_left, or_right, each_append, each_map, each_concat_map, range_below}

pub data Shape (net : Net) : Transition → Type 0 where
  is_act : (c : ℕ) → c < size net → Shape net (act net.rels c)
  is_deac : (c : ℕ) → c < size net → Shape net (deac net.rels c)
  is_drop : (a b : ℕ) → related net.rels causes a b ≡ true → Shape net (drop_of b)
  is_implied : (a b : ℕ) → related net.rels implies a b ≡ true → Shape net (forced net.rels a (singleton b) (singleton b))
  is_required : (a b : ℕ) → related net.rels requires a b ≡ true → Shape net (forced net.rels a (singleton b) empty_set)
  is_decline : (a b : ℕ) → related net.rels suggests a b ≡ true → Shape net (decline_of b)

matches_self : (r : Relation) → matches r.kind r.a r.b r ≡ true
unfolding matches
matches_self r = and_both (and_both (eq-eqb r.kind r.kind refl) (eq-eqb r.a r.a refl)) (eq-eqb r.b r.b refl)

each_related : (rels : List Relation) → Each (λ r. related rels r.kind r.a r.b ≡ true) rels
unfolding related
each_related [] = nil
each_related (r ∷ rels) =
    cons (or_left (any (matches r.kind r.a r.b) rels) (matches_self r))
    (each_map (λ s h. or_right (matches s.kind s.a s.b r) h) (each_related rels))

module _ (net : Net) where
  extra_shapes : (r : Relation) → related net.rels r.kind r.a r.b ≡ true → Each (Shape net) (extra net.rels r)
  unfolding extra
  extra_shapes r h = go (eqb r.kind causes) refl (eqb r.kind implies) refl (eqb r.kind requires) refl (eqb r.kind suggests) refl
    where
      at : (k : ℕ) → eqb r.kind k ≡ true → related net.rels k r.a r.b ≡ true
      at k e = subst (λ (x : ℕ). related net.rels x r.a r.b ≡ true) (eqb-true r.kind k e) h

      go : (p : Bool) → eqb r.kind causes ≡ p → (q : Bool) → eqb r.kind implies ≡ q → (s : Bool) → eqb r.kind requires ≡ s
          → (u : Bool) → eqb r.kind suggests ≡ u → Each (Shape net)
          (cond p (drop_of r.b ∷ [])
          (cond q (forced net.rels r.a (singleton r.b) (singleton r.b) ∷ [])
          (cond s (forced net.rels r.a (singleton r.b) empty_set ∷ [])
          (cond u (decline_of r.b ∷ []) []))))
      go true e q f s g u k = cons (is_drop r.a r.b (at causes e)) nil
      go false e true f s g u k = cons (is_implied r.a r.b (at implies f)) nil
      go false e false f true g u k = cons (is_required r.a r.b (at requires g)) nil
      go false e false f false g true k = cons (is_decline r.a r.b (at suggests k)) nil
      go false e false f false g false k = nil

  context_shapes : (c : ℕ) → c < size net → Each (Shape net) (context_transitions net.rels c)
  unfolding context_transitions
  context_shapes c h = cons (is_act c h) (cons (is_deac c h) nil)

  pub shapes : Each (Shape net) (transitions net)
  unfolding transitions_of extra_transitions
  shapes =
      each_append (each_concat_map (context_transitions net.rels) (range_below 0 (size net)) (λ c h. context_shapes c (omega arith)))
      (each_concat_map (extra net.rels) (each_related net.rels) extra_shapes)
