-- When a relation is the same as an earlier one, by what the earlier ones link.
-- Assumes nothing.
use Prim.Native.Nat.{ℕ}
use native.Mathlib.Decide.{ℕ_discrete}
use mathlib.Core.Bool.{Bool, true, false, ◌&&◌, ◌||◌}
use mathlib.Core.Path.{◌≡◌, refl, sym, ap, ap₂, ◌∙◌}
use mathlib.Core.List.{List, [], ◌∷◌, ◌++◌}
use lib.Dec.{eqb}
use borrow.Author.Tests.{ne_eqb}
use Rattle.std.proofs.Math.Bool.{or-false, and_comm}
use Rattle.std.proofs.lemmas.Bool.{false≢true}
use Rattle.model.specs.Sets.{any}
use Rattle.model.specs.declared.Relation.{Relation}
use Rattle.model.specs.Relations.{same, matches, related, excluded, excludes, repeats, repeats_after}
use Rattle.relations.specs.Reading.{relation}
use Rattle.relations.specs.Links.{ends}
use Rattle.relations.proofs.Linking.{eqb_sym}

-- tests that agree at each relation, and a test that is one of two
any_same : (f g : Relation → Bool) → ((s : Relation) → f s ≡ g s) → (rels : List Relation) → any f rels ≡ any g rels
any_same f g e [] = refl
any_same f g e (s ∷ rels) = ap₂ (λ (p q : Bool). p || q) (e s) (any_same f g e rels)

or_swap : (p q r s : Bool) → ((p || q) || (r || s)) ≡ ((p || r) || (q || s))
or_swap true q r s = refl
or_swap false true true s = refl
or_swap false true false s = refl
or_swap false false r s = refl

any_either : (f g : Relation → Bool) (rels : List Relation) → any (λ s. f s || g s) rels ≡ (any f rels || any g rels)
any_either f g [] = refl
any_either f g (s ∷ rels) = ap (λ (t : Bool). (f s || g s) || t) (any_either f g rels) ∙ or_swap (f s) (g s) (any f rels) (any g rels)

and_ends : (p q r : Bool) → ((p && q) && r) ≡ ((p && r) && q)
and_ends true q r = and_comm q r
and_ends false q r = refl

module _ (k a b : ℕ) where
  -- a relation that is no exclusion is the same as one with its kind and ends
  same_plain : (k ≡ excludes → ⊥) → (rels : List Relation) → any (same (relation k a b)) rels ≡ related rels k a b
  unfolding related same matches
  same_plain d rels =
      any_same (same (relation k a b)) (matches k a b)
      (λ s. rw (ne_eqb k excludes d, eqb_sym k s.kind, eqb_sym a s.a, eqb_sym b s.b) (or-false (eqb s.kind k && eqb s.a a && eqb s.b b)))
      rels

-- an exclusion is the same as one with its ends in either order
same_exclusion : (a b : ℕ) (rels : List Relation) → any (same (relation excludes a b)) rels ≡ excluded rels a b
unfolding excluded related same matches
same_exclusion a b rels =
    any_same (same (relation excludes a b)) (λ s. matches excludes a b s || matches excludes b a s)
    (λ s. rw (eqb_sym excludes s.kind, eqb_sym a s.a, eqb_sym b s.b, eqb_sym a s.b, eqb_sym b s.a)
    (ap (λ (t : Bool). (eqb s.kind excludes && eqb s.a a && eqb s.b b) || t) (and_ends (eqb s.kind excludes) (eqb s.b a) (eqb s.a b))))
    rels
    ∙ any_either (matches excludes a b) (matches excludes b a) rels

-- in either case, where its second end is in the set of its kind and first end
pub same_linked : (k a b : ℕ) (rels : List Relation) → ends rels k a b ≡ any (same (relation k a b)) rels
unfolding ends
same_linked k a b rels = go (ℕ_discrete k excludes)
  where
    go : Dec (k ≡ excludes) → ends rels k a b ≡ any (same (relation k a b)) rels
    go (yes e) = rw e (sym (same_exclusion a b rels))
    go (no d) = rw (ne_eqb k excludes d) (sym (same_plain k a b d rels))

or_late : (p q s t u : Bool) → (p || (q || ((s || t) || u))) ≡ ((p || q) || (t || (s || u)))
or_late true q s t u = refl
or_late false true s t u = refl
or_late false false true true u = refl
or_late false false true false u = refl
or_late false false false t u = refl

after_snoc : (earlier rels : List Relation) (r : Relation)
    → repeats_after earlier (rels ++ (r ∷ [])) ≡ (repeats_after earlier rels || (any (same r) earlier || any (same r) rels))
unfolding repeats_after
after_snoc earlier [] r = refl
after_snoc earlier (s ∷ rels) r =
    ap (λ (t : Bool). any (same s) earlier || t) (after_snoc (s ∷ earlier) rels r)
    ∙ or_late (any (same s) earlier) (repeats_after (s ∷ earlier) rels) (same r s) (any (same r) earlier) (any (same r) rels)

-- a relation repeated among the first ones is one repeated among all
after_longer : (earlier rels more : List Relation) → repeats_after earlier rels ≡ true → repeats_after earlier (rels ++ more) ≡ true
unfolding repeats_after
after_longer earlier [] more e = absurd (false≢true e)
after_longer earlier (s ∷ rels) more e = go (any (same s) earlier) (after_longer (s ∷ earlier) rels more) e
  where
    go : (b : Bool) → (repeats_after (s ∷ earlier) rels ≡ true → repeats_after (s ∷ earlier) (rels ++ more) ≡ true)
        → (b || repeats_after (s ∷ earlier) rels) ≡ true → (b || repeats_after (s ∷ earlier) (rels ++ more)) ≡ true
    go true longer f = refl
    go false longer f = longer f

pub repeats_longer : (rels more : List Relation) → repeats rels ≡ true → repeats (rels ++ more) ≡ true
repeats_longer rels more e = after_longer [] rels more e

-- one relation more
pub repeats_more : (rels : List Relation) (r : Relation) → repeats (rels ++ (r ∷ [])) ≡ (repeats rels || any (same r) rels)
repeats_more rels r = after_snoc [] rels r
