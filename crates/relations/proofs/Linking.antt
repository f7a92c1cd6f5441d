-- One relation more: what it adds to the sets that relations link.
-- Assumes nothing.
use Prim.Native.Nat.{ℕ, ◌-◌, ◌<◌, ◌≤◌}
use native.Mathlib.Decide.{ℕ_discrete}
use native.Mathlib.Omega.{arith}
use mathlib.Core.Bool.{Bool, true, false, ◌&&◌, ◌||◌, cond}
use mathlib.Core.Path.{◌≡◌, refl, sym, ap, ap₂, ◌∙◌, subst}
use mathlib.Core.Logic.{◌≢◌}
use mathlib.Core.List.{List, [], ◌∷◌, ◌++◌}
use lib.Dec.{eqb}
use lib.ListN.{length, get_or, set, length-set, replicate, get_or-replicate}
use lib.Seq.{get_or-set_same, get_or-set_other}
use borrow.Author.Tests.{eq-eqb, eqb-true, ne_eqb}
use Rattle.sets.specs.Sets.{members, insert}
use Rattle.std.proofs.Math.Bool.{or-false, and_comm}
use Rattle.sets.proofs.Laws.{same_bool, inserted}
use Rattle.model.proofs.Masks.{number_cong}
use Rattle.model.specs.Sets.{Set, number, empty_set}
use Rattle.model.specs.Relations.{matches, related, excluded, excludes, last_kind}
use Rattle.model.specs.declared.Relation.{Relation}
use Rattle.relations.specs.declared.kind.Kind.{Kind}
use Rattle.relations.specs.declared.kind.Kind.TheVariants.{Excludes, Causes, Implies, Requires, Suggests}
use Rattle.relations.specs.Kinds.{kind_number}
use Rattle.relations.specs.Reading.{relation}
use Rattle.relations.specs.Links.{row_of, set_at, ends, Grid, Linked, marked}
use Rattle.relations.proofs.Reading.{any_snoc}

pub eqb_sym : (x y : ℕ) → eqb x y ≡ eqb y x
eqb_sym x y = same_bool (eqb x y) (eqb y x) (λ e. eq-eqb y x (sym (eqb-true x y e))) (λ e. eq-eqb x y (sym (eqb-true y x e)))

-- two unions, member by member
or_pairs : (p q m n : Bool) → ((p || m) || (q || n)) ≡ (((p || q) || m) || n)
or_pairs true q m n = refl
or_pairs false true true n = refl
or_pairs false true false n = refl
or_pairs false false m n = refl

module _ (rels : List Relation) (k a b : ℕ) where
  abbrev more : List Relation
  more = rels ++ (relation k a b ∷ [])

  by_match : (q x y : ℕ) → related more q x y ≡ (related rels q x y || matches q x y (relation k a b))
  unfolding related
  by_match q x y = any_snoc (matches q x y) rels (relation k a b)

  -- at another kind nothing is added, at its own the pair of its ends
  other : (q : ℕ) → (k ≡ q → ⊥) → (x y : ℕ) → related rels q x y ≡ related more q x y
  unfolding matches
  other q d x y = sym (by_match q x y ∙ rw (ne_eqb k q d) (or-false (related rels q x y)))

  own : (q : ℕ) → k ≡ q → (x y : ℕ) → (related rels q x y || (eqb x a && eqb y b)) ≡ related more q x y
  unfolding matches
  own q e x y = sym (by_match q x y ∙ rw (eq-eqb k q e, eqb_sym a x, eqb_sym b y))

  -- what the relation adds to a set of its kind; an exclusion adds its ends both ways
  ends_other : (k ≡ excludes → ⊥) → (q x y : ℕ) → (ends rels q x y || (eqb q k && eqb x a && eqb y b)) ≡ ends more q x y
  unfolding ends excluded matches
  ends_other d q x y = go (ℕ_discrete q excludes)
    where
      go : Dec (q ≡ excludes) → (ends rels q x y || (eqb q k && eqb x a && eqb y b)) ≡ ends more q x y
      go (yes e) =
          rw (eq-eqb q excludes e, ne_eqb q k (λ f. d (sym f ∙ e)))
          (or-false (excluded rels x y) ∙ ap₂ (λ (s t : Bool). s || t) (other excludes d x y) (other excludes d y x))
      go (no f) = rw (ne_eqb q excludes f) (sym (by_match q x y ∙ rw (eqb_sym k q, eqb_sym a x, eqb_sym b y)))

  ends_both : k ≡ excludes → (q x y : ℕ) → ((ends rels q x y || (eqb q k && eqb x a && eqb y b)) || (eqb q k && eqb x b && eqb y a)) ≡ ends more q x y
  unfolding ends excluded matches
  ends_both e q x y = go (ℕ_discrete q excludes)
    where
      go : Dec (q ≡ excludes) → ((ends rels q x y || (eqb q k && eqb x a && eqb y b)) || (eqb q k && eqb x b && eqb y a)) ≡ ends more q x y
      go (yes f) =
          rw (eq-eqb q excludes f, eq-eqb q k (f ∙ sym e))
          (ap (λ (t : Bool). (excluded rels x y || (eqb x a && eqb y b)) || t) (and_comm (eqb x b) (eqb y a))
          ∙ sym (or_pairs (related rels excludes x y) (related rels excludes y x) (eqb x a && eqb y b) (eqb y a && eqb x b))
          ∙ ap₂ (λ (s t : Bool). s || t) (own excludes e x y) (own excludes e y x))
      go (no f) =
          rw (ne_eqb q excludes f, ne_eqb q k (λ g. f (g ∙ e)))
          (or-false (related rels q x y || false) ∙ or-false (related rels q x y) ∙ other q (λ g. f (sym g ∙ e)) x y)

-- the grid with b added to the set of a
abbrev pub add : (k a b : ℕ) → (ℕ → ℕ → Set) → ℕ → ℕ → Set
add k a b G q x y = G q x y || (eqb q k && eqb x a && eqb y b)

-- one set takes one member more
module _ (G : ℕ → ℕ → Set) (k a b : ℕ) {sets : List (List ℕ)} (has : Grid sets G) (least : excludes ≤ k) (most : k ≤ last_kind) (inside : a < 48) where
  row : List ℕ
  row = row_of sets k

  entry : ℕ
  entry = number 64 (insert b (members (set_at sets k a)))

  -- the row of the kind is the new one, and the others are as they were
  row_same : row_of (marked sets k a b) k ≡ set row a entry
  unfolding row entry
  row_same = get_or-set_same sets (k - excludes) (set row a entry) [] (omega (arith, has.rows))

  row_other : (q : ℕ) → excludes ≤ q → q ≢ k → row_of (marked sets k a b) q ≡ row_of sets q
  unfolding row entry
  row_other q l d = get_or-set_other sets (k - excludes) (q - excludes) (set row a entry) [] (λ e. d (omega arith))

  kept : (q x : ℕ) → excludes ≤ q → q ≤ last_kind → x < 48 → (eqb q k && eqb x a) ≡ false → number 64 (G q x) ≡ number 64 (add k a b G q x)
  kept q x l m h e = number_cong 64 (G q x) (add k a b G q x) (λ y _. sym (ap (λ (t : Bool). G q x y || (t && eqb y b)) e ∙ or-false (G q x y)))

  marked_at : (q x : ℕ) → excludes ≤ q → q ≤ last_kind → x < 48 → set_at (marked sets k a b) q x ≡ number 64 (add k a b G q x)
  unfolding row entry
  marked_at q x l m h = go (ℕ_discrete q k) (ℕ_discrete x a)
    where
      go : Dec (q ≡ k) → Dec (x ≡ a) → set_at (marked sets k a b) q x ≡ number 64 (add k a b G q x)
      go (no d) _ =
          ap (λ (r : List ℕ). get_or r x 0) (row_other q l d) ∙ has.at q x l m h
          ∙ kept q x l m h (ap (λ (t : Bool). t && eqb x a) (ne_eqb q k d))
      go (yes e) (no d) =
          ap (λ (j : ℕ). set_at (marked sets k a b) j x) e ∙ ap (λ (r : List ℕ). get_or r x 0) row_same
          ∙ get_or-set_other row a x entry 0 d ∙ has.at k x least most h
          ∙ ap (λ (j : ℕ). number 64 (G j x)) (sym e)
          ∙ kept q x l m h (rw (eq-eqb q k e) (ne_eqb x a d))
      go (yes e) (yes f) =
          ap₂ (λ (i j : ℕ). set_at (marked sets k a b) i j) e f ∙ ap (λ (r : List ℕ). get_or r a 0) row_same
          ∙ get_or-set_same row a entry 0 (subst (λ (n : ℕ). a < n) (sym (has.row k least most)) inside)
          ∙ inserted 64 (G k a) (has.at k a least most inside) b refl
          ∙ number_cong 64 (insert b (G k a)) (add k a b G q x) (λ y _. rw (e, f, eq-eqb k k refl, eq-eqb a a refl) refl)

  grid_add : Grid (marked sets k a b) (add k a b G)
  unfolding row entry
  grid_add =
      record {
        rows = length-set sets (k - excludes) (set row a entry) ∙ has.rows;
        row = λ q l m. go q l m (ℕ_discrete q k);
        at = marked_at;
      }
    where
      go : (q : ℕ) → excludes ≤ q → q ≤ last_kind → Dec (q ≡ k) → length (row_of (marked sets k a b) q) ≡ 48
      go q l m (no d) = ap length (row_other q l d) ∙ has.row q l m
      go q l m (yes e) = ap (λ (j : ℕ). length (row_of (marked sets k a b) j)) e ∙ ap length row_same ∙ length-set row a entry ∙ has.row k least most

-- the same sets by another name
grid_same : {sets : List (List ℕ)} (F G : ℕ → ℕ → Set) → Grid sets F → ((q x y : ℕ) → F q x y ≡ G q x y) → Grid sets G
grid_same F G has e =
    record { rows = has.rows; row = has.row; at = λ k a l m h. has.at k a l m h ∙ number_cong 64 (F k a) (G k a) (λ y _. e k a y) }

pub joined : {sets after : List (List ℕ)} (G : ℕ → ℕ → Set) (k a b : ℕ)
    → after ≡ marked sets k a b → excludes ≤ k → k ≤ last_kind → a < 48 → Grid sets G → Grid after (add k a b G)
joined G k a b e l m h has = subst (λ (s : List (List ℕ)). Grid s (add k a b G)) (sym e) (grid_add G k a b has l m h)

module _ (rels : List Relation) (k a b : ℕ) {sets : List (List ℕ)} where
  pub linked_plain : (k ≡ excludes → ⊥) → Grid sets (add k a b (ends rels)) → Linked (rels ++ (relation k a b ∷ [])) sets
  linked_plain d has = grid_same (add k a b (ends rels)) (ends (rels ++ (relation k a b ∷ []))) has (ends_other rels k a b d)

  pub linked_exclusion : k ≡ excludes → Grid sets (add k b a (add k a b (ends rels))) → Linked (rels ++ (relation k a b ∷ [])) sets
  linked_exclusion e has = grid_same (add k b a (add k a b (ends rels))) (ends (rels ++ (relation k a b ∷ []))) has (ends_both rels k a b e)

-- no relation links anything
pub linked_none : (none : ℕ) → none ≡ number 64 empty_set → Linked [] (replicate last_kind (replicate 48 none))
unfolding ends excluded related
linked_none none e =
    record {
      rows = refl;
      row = λ k l m. ap length (row k l m);
      at = λ k a l m h. ap (λ (r : List ℕ). get_or r a 0) (row k l m) ∙ get_or-replicate 48 a none 0 h ∙ e ∙ number_cong 64 empty_set (ends [] k a) (λ y _. empty (eqb k excludes) y);
    }
  where
    row : (k : ℕ) → excludes ≤ k → k ≤ last_kind → row_of (replicate last_kind (replicate 48 none)) k ≡ replicate 48 none
    row k l m = get_or-replicate last_kind (k - excludes) (replicate 48 none) [] (omega arith)

    empty : (t : Bool) (y : ℕ) → false ≡ cond {A = Set} t (λ b. false) (λ b. false) y
    empty true y = refl
    empty false y = refl

-- the number of a kind is one of the five
pub kind_least : (kind : Kind) → excludes ≤ kind_number kind
kind_least Excludes = omega arith
kind_least Causes = omega arith
kind_least Implies = omega arith
kind_least Requires = omega arith
kind_least Suggests = omega arith

pub kind_most : (kind : Kind) → kind_number kind ≤ last_kind
kind_most Excludes = omega arith
kind_most Causes = omega arith
kind_most Implies = omega arith
kind_most Requires = omega arith
kind_most Suggests = omega arith

-- that of exclusions is no other kind's
pub kind_excludes : (kind : Kind) → kind_number kind ≡ excludes → kind ≡ Excludes
kind_excludes Excludes e = refl
kind_excludes Causes e = absurd (omega arith)
kind_excludes Implies e = absurd (omega arith)
kind_excludes Requires e = absurd (omega arith)
kind_excludes Suggests e = absurd (omega arith)
