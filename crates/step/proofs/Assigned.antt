-- Sets renewed at one context, for any width; and one place's tokens where they move.
-- Assumes nothing.
use Prim.Native.Nat.{ℕ, ◌+◌, ◌-◌, ◌<◌}
use mathlib.Core.Bool.{Bool, true, false, cond, ◌&&◌, ◌||◌, not, true≢false}
use mathlib.Core.Path.{◌≡◌, refl, sym, ap, ◌∙◌}
use native.Mathlib.Decide.{ℕ_discrete}
use native.Mathlib.Omega.{arith}
use borrow.Author.Tests.{eq-eqb, ne_eqb}
use lib.Dec.{eqb}
use Rattle.sets.specs.Sets.{members, insert, remove, assigned}
use Rattle.sets.proofs.Laws.{contained}
use Rattle.model.specs.Sets.{Set, bit, number}
use Rattle.model.proofs.Masks.{number_cong}

or_cond : (a b : Bool) → (a || b) ≡ cond b true a
or_cond true true = refl
or_cond true false = refl
or_cond false true = refl
or_cond false false = refl

and_cond : (a b : Bool) → (a && not b) ≡ cond b false a
and_cond true true = refl
and_cond true false = refl
and_cond false true = refl
and_cond false false = refl

module _ (w : ℕ) (f : Set) (c : ℕ) {r : ℕ} {test : Bool} where
  pub assigned_in : test ≡ true → r ≡ number w (insert c f) → r ≡ number w (assigned f c test)
  assigned_in t e = e ∙ number_cong w (insert c f) (assigned f c test) (λ j l. or_cond (f j) (eqb j c) ∙ ap (λ (b : Bool). cond (eqb j c) b (f j)) (sym t))

  pub assigned_out : test ≡ false → r ≡ number w (remove c f) → r ≡ number w (assigned f c test)
  assigned_out t e = e ∙ number_cong w (remove c f) (assigned f c test) (λ j l. and_cond (f j) (eqb j c) ∙ ap (λ (b : Bool). cond (eqb j c) b (f j)) (sym t))

-- sets of which one is the other, renewed at c
renewed : (w : ℕ) {a r : ℕ} (f g : Set) (c : ℕ) (test : Bool) → a ≡ number w f → r ≡ number w (assigned (members a) c test)
    → (c < w → test ≡ g c) → ((j : ℕ) → j < w → (j ≡ c → ⊥) → f j ≡ g j) → r ≡ number w g
renewed w {a} f g c test ha e here there = e ∙ number_cong w (assigned (members a) c test) g (λ j l. at j l (ℕ_discrete j c))
  where
    at : (j : ℕ) → j < w → Dec (j ≡ c) → assigned (members a) c test j ≡ g j
    at j l (yes q) = ap (λ (b : Bool). cond b test (members a j)) (eq-eqb j c q) ∙ here (rw (sym q) l) ∙ ap g (sym q)
    at j l (no d) = ap (λ (b : Bool). cond b test (members a j)) (ne_eqb j c d) ∙ contained w f ha j l ∙ there j l d

-- one place, where it is taken or given and not both
pub one_moves : (t g : Bool) (x : ℕ) → ((t && not g) || (g && not t)) ≡ true → cond t (x - 1) (x + 1) ≡ x - bit t + bit g
one_moves true true x e = absurd (true≢false (sym e))
one_moves true false x e = omega arith
one_moves false true x e = omega arith
one_moves false false x e = absurd (true≢false (sym e))

-- it is given, where it is not taken
pub given : (t g : Bool) → ((t && not g) || (g && not t)) ≡ true → t ≡ false → g ≡ true
given true g e t = absurd (true≢false t)
given false true e t = refl
given false false e t = absurd (true≢false (sym e))
