-- A walk over the transitions of a net: what comes first, and what then.
-- Assumes nothing.
use Rattle.std.proofs.Common.{◌≡◌, ℕ, zero, suc, ◌+◌, ◌*◌, ◌/◌, ◌%◌, ◌<◌, ◌≤◌, Bool, true, false, cond, List, [], ◌∷◌, ◌++◌, length, get_or, map, drop, length-append, refl, sym, ap, ap₂, ◌∙◌, Option, arith}
use Rattle.std.proofs.lemmas.List.{map-append, length-map}
use Rattle.std.specs.List.{filter, count_by}
use Rattle.std.proofs.lemmas.List.Sums.{length-filter}
use Rattle.std.specs.Option.{option_to_list}
use Rattle.std.proofs.Math.ListN.{drop_of_length-le}
use native.Mathlib.Decide.{ℕ_discrete}
use native.Mathlib.Nat.{add-zero, zero-add}
use native.Mathlib.Numerals.{add-one}
use borrow.Author.Tests.{eq-eqb, ne_eqb}
use Rattle.model.specs.Sets.{any, bit, concat_map, range}
use Rattle.model.specs.Relations.{Net, size, misfit, excludes, causes, implies, requires, suggests, last_kind}
use Rattle.model.specs.declared.Relation.{Relation}
use Rattle.model.specs.Transitions.{Transition, act, deac, extra, context_transitions, extra_transitions, transitions_of, transitions}
use Rattle.model.proofs.Sizes.{length_concat_map, length_range, length_transitions}
use Rattle.model.specs.Image.{relation_from}
use Rattle.relations.specs.declared.list.FittingList.{FittingList}
use Rattle.relations.specs.Reading.{relations_of}
use Rattle.relations.specs.Lists.{net_of}
use Rattle.relations.proofs.Reading.{fits_wider}
use Rattle.model.proofs.Ready.{fitting}
use Rattle.model.proofs.Tests.{or_false_left, or_false_right}
use Rattle.transitions.specs.declared.Arcs.{Arcs}
use Rattle.transitions.specs.Arcs.{arcs_of}
use Rattle.transitions.specs.declared.walk.Transitions.{Transitions}
use Rattle.transitions.specs.Walk.{own, own_transitions, rest, has_extra}
use Rattle.transitions.proofs.Words.{extra_excluded, extra_drop, extra_implied, extra_required, extra_declined}

drop_next : {A : Type 0} (i : ℕ) (xs : List A) → drop (suc i) xs ≡ drop 1 (drop i xs)
drop_next zero xs = refl
drop_next (suc i) [] = refl
drop_next (suc i) (x ∷ xs) = drop_next i xs

-- the own transitions of n contexts from k on, and behind those of c contexts
module _ (rels : List Relation) where
  owned : ℕ → ℕ → List Transition
  owned k n = concat_map (context_transitions rels) (range k n)

  pair_at : (k n c : ℕ) → c < n → drop (2 * c) (owned k n) ≡ act rels (k + c) ∷ deac rels (k + c) ∷ drop (2 * c + 2) (owned k n)
  unfolding context_transitions owned
  pair_at k zero c h = absurd (omega arith)
  pair_at k (suc n) zero h = ap (λ (x : ℕ). act rels x ∷ deac rels x ∷ owned (suc k) n) (sym (add-zero k))
  pair_at k (suc n) (suc c) h =
      let p : 2 * suc c ≡ suc (suc (2 * c)) = omega arith in
      let q : suc (suc (2 * c + 2)) ≡ 2 * suc c + 2 = omega arith in
      let e : suc k + c ≡ k + suc c = omega arith in
      ap (λ (j : ℕ). drop j (owned k (suc n))) p
      ∙ pair_at (suc k) n c (omega arith)
      ∙ ap₂ (λ (x j : ℕ). act rels x ∷ deac rels x ∷ drop j (owned k (suc n))) e q

module _ (net : Net) where
  pair_of : (c : ℕ) → c < size net → drop (2 * c) (own_transitions net) ≡ act net.rels c ∷ deac net.rels c ∷ drop (2 * c + 2) (own_transitions net)
  unfolding owned
  pair_of c h =
      pair_at net.rels 0 (size net) c h
      ∙ ap (λ (x : ℕ). act net.rels x ∷ deac net.rels x ∷ drop (2 * c + 2) (own_transitions net)) (zero-add c)

  -- the transition that has number i comes first of those from i on
  first_own : (i : ℕ) → i < 2 * size net → drop i (own_transitions net) ≡ own net.rels i ∷ drop (i + 1) (own_transitions net)
  first_own i h = go (ℕ_discrete (i % 2) 0)
    where
      c : ℕ
      c = i / 2

      l : List Transition
      l = own_transitions net

      go : Dec (i % 2 ≡ 0) → drop i l ≡ own net.rels i ∷ drop (i + 1) l
      go (yes e) =
          let even : i ≡ 2 * c = omega arith in
          let all : drop i l ≡ act net.rels c ∷ deac net.rels c ∷ drop (2 * c + 2) l = ap (λ (j : ℕ). drop j l) even ∙ pair_of c (omega arith) in
          let next : drop (i + 1) l ≡ deac net.rels c ∷ drop (2 * c + 2) l = ap (λ (j : ℕ). drop j l) (add-one i) ∙ drop_next i l ∙ ap (drop 1) all in
          rw (eq-eqb (i % 2) 0 e) (all ∙ ap (λ (ts : List Transition). act net.rels c ∷ ts) (sym next))
      go (no d) =
          let odd : i ≡ suc (2 * c) = omega arith in
          let more : i + 1 ≡ 2 * c + 2 = omega arith in
          rw (ne_eqb (i % 2) 0 d)
          (ap (λ (j : ℕ). drop j l) odd
          ∙ drop_next (2 * c) l
          ∙ ap (drop 1) (pair_of c (omega arith))
          ∙ ap (λ (j : ℕ). deac net.rels c ∷ drop j l) (sym more))

  -- behind the own transitions of all contexts stand none
  none_own : (i : ℕ) → 2 * size net ≤ i → drop i (own_transitions net) ≡ []
  unfolding context_transitions
  none_own i h =
      let count : length (own_transitions net) ≡ 2 * size net =
      length_concat_map (context_transitions net.rels) 2 (λ _. refl) (range 0 (size net)) ∙ ap (λ (k : ℕ). 2 * k) (length_range 0 (size net)) in
      drop_of_length-le (own_transitions net) {i = i} (omega arith)

  -- the own transitions from i on, and the extra ones of these relations, as they are in the code
  abbrev pub left : ℕ → List Relation → List Arcs
  left i rs = map arcs_of (drop i (own_transitions net) ++ concat_map (extra net.rels) rs)

  -- an own one comes first
  left_own : (i : ℕ) (rs : List Relation) (a : Arcs) → i < 2 * size net → a ≡ arcs_of (own net.rels i) → left i rs ≡ a ∷ left (i + 1) rs
  left_own i rs a h e =
      ap (λ (ts : List Transition). map arcs_of (ts ++ concat_map (extra net.rels) rs)) (first_own i h)
      ∙ ap (λ (b : Arcs). b ∷ left (i + 1) rs) (sym e)

  module _ (i : ℕ) (past : 2 * size net ≤ i) where
    extras_alone : (rs : List Relation) → left i rs ≡ map arcs_of (concat_map (extra net.rels) rs)
    extras_alone rs = ap (λ (ts : List Transition). map arcs_of (ts ++ concat_map (extra net.rels) rs)) (none_own i past)

    -- behind these that of the first relation, where it has one
    pub left_extra : (r : Relation) (rs : List Relation) (found : Option Arcs) → option_to_list found ≡ map arcs_of (extra net.rels r)
        → left i (r ∷ rs) ≡ option_to_list found ++ left i rs
    left_extra r rs found e =
        extras_alone (r ∷ rs)
        ∙ map-append arcs_of (extra net.rels r) (concat_map (extra net.rels) rs)
        ∙ ap₂ (λ (xs ys : List Arcs). xs ++ ys) (sym e) (sym (extras_alone rs))

    pub left_none : (triples : List (List ℕ)) → length triples ≡ 0 → left i (relations_of triples) ≡ []
    left_none [] e = extras_alone []
    left_none (t ∷ triples) e = absurd (omega arith)

-- a context's own transition, which is made by its number, comes first
pub own_first : (walk : Transitions) (a : Arcs) {most : ℕ} → most ≡ size (net_of walk.list.now) → walk.next < 2 * most
    → a ≡ arcs_of (own (net_of walk.list.now).rels walk.next)
    → rest walk ≡ a ∷ left (net_of walk.list.now) (walk.next + 1) (relations_of walk.relations.now)
own_first walk a m h e = left_own (net_of walk.list.now) walk.next (relations_of walk.relations.now) a (omega (arith, m, h)) e

-- the context whose own transition has this number
pub own_context : (list : FittingList) (i : ℕ) → i < 2 * size (net_of list) → i / 2 < 48
own_context list i h = omega (arith, list.few_contexts)

-- how many there are at most
pub few_transitions : (list : FittingList) → length (transitions (net_of list)) ≤ 192
few_transitions list =
    let count = length-map list.relations.now relation_from in
    omega (arith, length_transitions (net_of list), list.few_contexts, list.few_relations, count)

-- ---- how many relations have an extra transition
-- a kind above exclusions has one
module _ (rels : List Relation) (t : List ℕ) where
  one : misfit 48 (relation_from t) ≡ false → length (extra rels (relation_from t)) ≡ bit (has_extra t)
  one fits = go (ℕ_discrete (get_or t 0 0) excludes) (ℕ_discrete (get_or t 0 0) causes) (ℕ_discrete (get_or t 0 0) implies) (ℕ_discrete (get_or t 0 0) requires)
    where
      go : Dec (get_or t 0 0 ≡ excludes) → Dec (get_or t 0 0 ≡ causes) → Dec (get_or t 0 0 ≡ implies) → Dec (get_or t 0 0 ≡ requires)
          → length (extra rels (relation_from t)) ≡ bit (has_extra t)
      go (yes e) d d' d'' = rw (eq-eqb (get_or t 0 0) excludes e) (ap length (extra_excluded rels (relation_from t) (sym e)))
      go (no n) (yes e) d d' = rw (ne_eqb (get_or t 0 0) excludes n) (ap length (extra_drop rels (relation_from t) (sym e)))
      go (no n) (no p) (yes e) d = rw (ne_eqb (get_or t 0 0) excludes n) (ap length (extra_implied rels (relation_from t) (sym e)))
      go (no n) (no p) (no q) (yes e) = rw (ne_eqb (get_or t 0 0) excludes n) (ap length (extra_required rels (relation_from t) (sym e)))
      go (no n) (no p) (no q) (no s) =
          let f = fitting 48 (relation_from t) fits in
          let least : excludes ≤ get_or t 0 0 = f.least in
          let most : get_or t 0 0 ≤ last_kind = f.most in
          let five : suggests ≡ get_or t 0 0 = omega arith in
          rw (ne_eqb (get_or t 0 0) excludes n) (ap length (extra_declined rels (relation_from t) five))

step : (b : Bool) (t : List ℕ) (l : List (List ℕ)) → bit b + length l ≡ length (cond b (t ∷ l) l)
step true t l = omega arith
step false t l = omega arith

extras_counted : (rels : List Relation) (triples : List (List ℕ)) → any (misfit 48) (relations_of triples) ≡ false
    → length (concat_map (extra rels) (relations_of triples)) ≡ length (filter has_extra triples)
extras_counted rels [] e = refl
extras_counted rels (t ∷ triples) e =
    length-append (extra rels (relation_from t)) (concat_map (extra rels) (relations_of triples))
    ∙ ap₂ (λ (x y : ℕ). x + y) (one rels t (or_false_left (misfit 48 (relation_from t)) (any (misfit 48) (relations_of triples)) e))
    (extras_counted rels triples (or_false_right (misfit 48 (relation_from t)) (any (misfit 48) (relations_of triples)) e))
    ∙ step (has_extra t) t (filter has_extra triples)

-- two transitions for each context, and the extra ones
pub transitions_counted : (list : FittingList) (triples : List (List ℕ)) → relations_of triples ≡ (net_of list).rels
    → length (transitions (net_of list)) ≡ 2 * length list.capacities.now + count_by has_extra triples
unfolding transitions_of context_transitions extra_transitions
transitions_counted list triples e =
    let net = net_of list in
    let all = fits_wider (size net) 48 list.few_contexts net.rels list.fits in
    let own = length_concat_map (context_transitions net.rels) 2 (λ _. refl) (range 0 (size net)) in
    let extras : length (concat_map (extra net.rels) net.rels) ≡ length (filter has_extra triples) =
    ap (λ (rs : List Relation). length (concat_map (extra net.rels) rs)) (sym e) ∙ extras_counted net.rels triples (rw e all) in
    length-append (own_transitions net) (extra_transitions net.rels)
    ∙ omega (arith, own, length_range 0 (size net), extras, length-filter has_extra triples)
