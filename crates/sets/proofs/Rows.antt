-- A list of words, and the sets that its entries hold: how a store of one entry changes them. For any width and count.
-- Assumes nothing.
use Prim.Native.Nat.{ℕ, ◌<◌}
use mathlib.Core.Bool.{Bool, ◌&&◌, ◌||◌}
use lib.Dec.{eqb}
use borrow.Author.Tests.{eq-eqb, ne_eqb}
use mathlib.Core.Path.{◌≡◌, refl, sym, ap, ◌∙◌, subst}
use mathlib.Core.Logic.{◌≢◌}
use mathlib.Core.List.{List}
use native.Mathlib.Decide.{ℕ_discrete}
use lib.ListN.{get_or, length, set, length-set, replicate, length-replicate, get_or-replicate}
use lib.Seq.{get_or-set_same, get_or-set_other}
use Rattle.model.specs.Sets.{Set, empty_set, number}
use Rattle.model.proofs.Masks.{number_cong}
use Rattle.sets.specs.Sets.{members, insert}
use Rattle.std.proofs.Math.Bool.{or-false}
use Rattle.sets.proofs.Laws.{number_empty, inserted}

-- a family of sets, with c added to set a
abbrev pub mark : ℕ → ℕ → (ℕ → Set) → ℕ → Set
mark a c F x j = F x j || (eqb x a && eqb j c)

-- a list of n words, of which word x holds the set F x in w digits
pub record Rows (w n : ℕ) (out : List ℕ) (F : ℕ → Set) : Type 0 where
  pub count : length out ≡ n
  pub row : (x : ℕ) → x < n → get_or out x 0 ≡ number w (F x)

module _ (w n : ℕ) where
  pub rows_none : Rows w n (replicate n 0) (λ x. empty_set)
  rows_none = record { count = length-replicate n 0; row = λ x h. get_or-replicate n x 0 0 h ∙ sym (number_empty w) }

  module _ {out : List ℕ} (F G : ℕ → Set) (has : Rows w n out F) where
    -- the same sets by another name
    pub rows_same : ((x : ℕ) → x < n → (j : ℕ) → j < w → F x j ≡ G x j) → Rows w n out G
    rows_same e = record { count = has.count; row = λ x h. has.row x h ∙ number_cong w (F x) (G x) (e x h) }

    -- entry a is stored, and the others stay
    pub rows_set : (a v : ℕ) → a < n → v ≡ number w (G a) → ((x : ℕ) → x < n → x ≢ a → (j : ℕ) → j < w → F x j ≡ G x j) → Rows w n (set out a v) G
    rows_set a v l e keep = record { count = length-set out a v ∙ has.count; row = λ x h. at x h (ℕ_discrete x a) }
      where
        at : (x : ℕ) → x < n → Dec (x ≡ a) → get_or (set out a v) x 0 ≡ number w (G x)
        at x h (yes q) =
            ap (λ (k : ℕ). get_or (set out a v) k 0) q ∙ get_or-set_same out a v 0 (subst (λ (k : ℕ). a < k) (sym has.count) l) ∙ e
            ∙ ap (λ (k : ℕ). number w (G k)) (sym q)
        at x h (no d) = get_or-set_other out a x v 0 d ∙ has.row x h ∙ number_cong w (F x) (G x) (keep x h d)

  -- c joins entry a
  pub rows_mark : {out : List ℕ} (F : ℕ → Set) → Rows w n out F → (a c v : ℕ) → a < n → v ≡ number w (insert c (members (get_or out a 0)))
      → Rows w n (set out a v) (mark a c F)
  rows_mark F has a c v l e =
      rows_set F (mark a c F) has a v l
      (inserted w (F a) (has.row a l) c e
      ∙ number_cong w _ _ (λ j b. ap (λ (t : Bool). F a j || (t && eqb j c)) (sym (eq-eqb a a refl))))
      (λ x h d j b. sym (ap (λ (t : Bool). F x j || (t && eqb j c)) (ne_eqb x a d) ∙ or-false (F x j)))
