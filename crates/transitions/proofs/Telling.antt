-- Which transition of a net is a forced one can be told by its sets.
-- Assumes nothing.
use Prim.Native.Nat.{ℕ, ◌<◌, ◌≤◌}
use native.Mathlib.Omega.{arith}
use mathlib.Core.Bool.{Bool, true, false, ◌&&◌, not}
use mathlib.Core.Path.{◌≡◌, refl, ap, ap₂, ◌∙◌}
use lib.Dec.{eqb}
use borrow.Author.Tests.{eq-eqb}
use Rattle.model.specs.Sets.{number, singleton, empty_set}
use Rattle.model.specs.Relations.{Net, size, causes, suggests}
use Rattle.model.specs.Transitions.{Transition, is_forced, act, deac, forced, drop_of, decline_of}
use Rattle.model.specs.Claims.{Fits}
use Rattle.model.proofs.Ready.{related_ends}
use Rattle.model.proofs.Shapes.{Shape, is_act, is_deac, is_drop, is_implied, is_required, is_decline, shapes}
use Rattle.model.proofs.Tests.{below_make, each_map}
use Rattle.sets.proofs.Laws.{none_holds, below_fails}
use Rattle.transitions.specs.Arcs.{Holds, unasked, Tells}
use Rattle.transitions.specs.declared.Arcs.{Arcs}

-- a set with a member is not 0, and one without is
some_word : (c : ℕ) → c < 64 → {w : ℕ} → w ≡ number 64 (singleton c) → eqb w 0 ≡ false
some_word c h e = none_holds 64 (singleton c) e ∙ below_fails 64 (λ j. not (singleton c j)) c h (ap not (eq-eqb c c refl))

no_word : {w : ℕ} → w ≡ number 64 empty_set → eqb w 0 ≡ true
no_word e = none_holds 64 empty_set e ∙ below_make 64 (λ j. true) (λ j l. refl)

both : {p q r s : Bool} → p ≡ r → q ≡ s → (p && q) ≡ (r && s)
both e f = ap₂ (λ (a b : Bool). a && b) e f

told_of : (net : Net) → Fits net → size net ≤ 64 → (t : Transition) → Shape net t → (a : Arcs) → Holds a t → unasked a ≡ is_forced t
unfolding unasked act deac forced drop_of decline_of
told_of net fits few _ (is_act c h) a w = ap (λ (b : Bool). b && eqb a.takes_not 0) (some_word c (omega arith) w.takes_pr)
told_of net fits few _ (is_deac c h) a w = both (no_word w.takes_pr) (some_word c (omega arith) w.takes_not)
told_of net fits few _ (is_drop x b r) a w =
    both (no_word w.takes_pr) (some_word b (omega (arith, (related_ends net fits causes x b r).right)) w.takes_not)
told_of net fits few _ (is_implied x b r) a w = both (no_word w.takes_pr) (no_word w.takes_not)
told_of net fits few _ (is_required x b r) a w = both (no_word w.takes_pr) (no_word w.takes_not)
told_of net fits few _ (is_decline x b r) a w =
    ap (λ (e : Bool). e && eqb a.takes_not 0) (some_word b (omega (arith, (related_ends net fits suggests x b r).right)) w.takes_pr)

pub forced_told : (net : Net) → Fits net → size net ≤ 64 → Tells net
forced_told net fits few = each_map (told_of net fits few) (shapes net)
