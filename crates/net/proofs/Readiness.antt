-- The tests on words tell what the model calls ready.
-- Assumes nothing.
use Prim.Native.Nat.{ℕ, zero, suc, ◌≤◌}
use mathlib.Core.Bool.{Bool, true, false, ◌&&◌, ◌||◌, not}
use mathlib.Core.Path.{◌≡◌, refl, sym, ap, ap₂, ◌∙◌}
use native.Mathlib.Omega.{arith}
use borrow.Author.Tests.{lt-ltb}
use lib.Dec.{eqb, ltb, eqb-suc-zero}
use Rattle.sets.specs.Sets.{members, upto, minus, within, apart}
use Rattle.sets.proofs.Laws.{subset_holds, disjoint_holds, within_narrow, apart_narrow, below_cong, contained}
use Rattle.model.specs.Sets.{Set, number, all_below, ◌⇒◌}
use Rattle.model.specs.Transitions.{Transition}
use Rattle.model.specs.Firing.{Marking, holds_token, is_empty, ready_at, ready}
use Rattle.model.proofs.Tests.{and_left}
use Rattle.model.proofs.Bounds.{Below, Bounded, unused}
use Rattle.transitions.specs.Arcs.{Holds}
use Rattle.transitions.specs.declared.Arcs.{Arcs}
use Rattle.net.specs.Markings.{Shows}
use Rattle.net.specs.Walks.{passes_first, passes_last, passes}
use Rattle.net.specs.declared.marked.Marked.{Marked}

shuffle : (a x b y : Bool) → ((a && x) && (b && y)) ≡ ((a && b) && (x && y))
shuffle true true b y = refl
shuffle true false true y = refl
shuffle true false false y = refl
shuffle false x b y = refl

pub all_and : (n : ℕ) (p q : ℕ → Bool) → (all_below n p && all_below n q) ≡ all_below n (λ c. p c && q c)
unfolding all_below
all_and zero p q = refl
all_and (suc n) p q = shuffle (all_below n p) (p n) (all_below n q) (q n) ∙ ap (λ (b : Bool). b && (p n && q n)) (all_and n p q)

all_three : (n : ℕ) (p q r : ℕ → Bool) → (all_below n p && all_below n q && all_below n r) ≡ all_below n (λ c. p c && q c && r c)
all_three n p q r = ap (λ (b : Bool). b && all_below n r) (all_and n p q) ∙ all_and n (λ c. p c && q c) r

-- the tests of a transition, in the order of the words and in that of the model
reorder : (a b c d e f : Bool) → ((d && a && c) && (b && e && f)) ≡ (a && b && c && d && e && f)
reorder true true true true e f = refl
reorder true true true false e f = refl
reorder true true false true e f = refl
reorder true true false false e f = refl
reorder true false true true e f = refl
reorder true false true false e f = refl
reorder true false false true e f = refl
reorder true false false false e f = refl
reorder false b c true e f = refl
reorder false b c false e f = refl

pub not_held : (a : Bool) (x : ℕ) → not (a && ltb 0 x) ≡ (a ⇒ eqb x 0)
not_held true zero = refl
not_held true (suc x) = ap not (lt-ltb 0 (suc x) (omega arith)) ∙ sym (eqb-suc-zero x)
not_held false x = refl

module _ (n : ℕ) (few : n ≤ 64) where
  subset_is : {a b : ℕ} (f g : Set) → Below n f → a ≡ number 64 f → b ≡ number 64 (upto n g) → within 64 (members a) (members b) ≡ all_below n (λ c. f c ⇒ g c)
  subset_is f g h ha hb =
      subset_holds 64 f (upto n g) ha hb refl ∙ within_narrow n 64 f (upto n g) few (unused n f h)
      ∙ below_cong n (λ j. not (f j) || upto n g j) (λ j. f j ⇒ g j) (λ j l. ap (λ (b : Bool). not (f j) || (b && g j)) (lt-ltb j n l))

  apart_is : {a b : ℕ} (f : Set) (g : ℕ → ℕ) → Below n f → a ≡ number 64 f → b ≡ number 64 (upto n (holds_token g))
      → apart 64 (members a) (members b) ≡ all_below n (λ c. f c ⇒ is_empty g c)
  apart_is f g h ha hb =
      disjoint_holds 64 f (upto n (holds_token g)) ha hb refl ∙ apart_narrow n 64 f (upto n (holds_token g)) few (unused n f h)
      ∙ below_cong n (λ j. not (f j && upto n (holds_token g) j)) (λ j. f j ⇒ is_empty g j)
      (λ j l. ap (λ (b : Bool). not (f j && (b && ltb 0 (g j)))) (lt-ltb j n l) ∙ not_held (f j) (g j))

  gained_is : {a b r : ℕ} (f g h : Set) → Below n f → a ≡ number 64 f → b ≡ number 64 g → r ≡ number 64 (upto n h)
      → within 64 (minus (members a) (members b)) (members r) ≡ all_below n (λ c. (f c && not (g c)) ⇒ h c)
  gained_is {a} {b} {r} f g h low ha hb hr =
      below_cong 64 (λ j. not (minus (members a) (members b) j) || members r j) (λ j. not (minus f g j) || upto n h j)
      (λ j l. ap₂ (λ (x y : Bool). not x || y) (ap₂ (λ (x y : Bool). x && not y) (contained 64 f ha j l) (contained 64 g hb j l)) (contained 64 (upto n h) hr j l))
      ∙ within_narrow n 64 (minus f g) (upto n h) few (unused n (minus f g) (λ x e. low x (and_left (f x) (not (g x)) e)))
      ∙ below_cong n (λ j. not (minus f g j) || upto n h j) (λ j. minus f g j ⇒ h j) (λ j l. ap (λ (b : Bool). not (minus f g j) || (b && h j)) (lt-ltb j n l))

  -- the words of a transition and of a marking, and the set of the contexts with room, tell whether it is ready
  pub passes_ready : (spare : Set) (m : Marking) (s : Marked) → Shows n m s → {w : ℕ} → w ≡ number 64 (upto n spare) → (a : Arcs) (t : Transition) → Holds a t → Bounded n t
      → passes a s w ≡ ready n spare m t
  unfolding passes passes_first passes_last ready ready_at
  passes_ready spare m s sh {w} room a t has b =
      let e₁ = subset_is t.takes_context (holds_token m.count) b.takes_context has.takes_context sh.context in
      let e₂ = subset_is t.takes_pr (holds_token m.pr) b.takes_pr has.takes_pr sh.pr in
      let e₃ = subset_is t.takes_not (holds_token m.pr_not) b.takes_not has.takes_not sh.pr_not in
      let e₄ = apart_is t.inhib_context m.count b.inhib_context has.inhib_context sh.context in
      let e₅ = apart_is t.inhib_pr m.pr b.inhib_pr has.inhib_pr sh.pr in
      let e₆ = gained_is t.gives_context t.takes_context spare b.gives_context has.gives_context has.takes_context room in
      let p₁ : Set = λ c. t.takes_context c ⇒ holds_token m.count c in
      let p₂ : Set = λ c. t.takes_pr c ⇒ holds_token m.pr c in
      let p₃ : Set = λ c. t.takes_not c ⇒ holds_token m.pr_not c in
      let p₄ : Set = λ c. t.inhib_context c ⇒ is_empty m.count c in
      let p₅ : Set = λ c. t.inhib_pr c ⇒ is_empty m.pr c in
      let p₆ : Set = λ c. (t.gives_context c && not (t.takes_context c)) ⇒ spare c in
      let six : passes a s w ≡ ((all_below n p₄ && all_below n p₁ && all_below n p₃) && (all_below n p₂ && all_below n p₅ && all_below n p₆)) =
      λ i. (e₄ i && e₁ i && e₃ i) && (e₂ i && e₅ i && e₆ i) in
      six
      ∙ ap₂ (λ (x y : Bool). x && y) (all_three n p₄ p₁ p₃) (all_three n p₂ p₅ p₆)
      ∙ all_and n (λ c. p₄ c && p₁ c && p₃ c) (λ c. p₂ c && p₅ c && p₆ c)
      ∙ below_cong n _ _ (λ c l. reorder (p₁ c) (p₂ c) (p₃ c) (p₄ c) (p₅ c) (p₆ c))
