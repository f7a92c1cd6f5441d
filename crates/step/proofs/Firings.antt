-- A ready transition finds the tokens that it takes and the room that it needs, and its firing is the model's.
-- Assumes nothing.
use Prim.Native.Nat.{ℕ, ◌<◌, ◌≤◌}
use mathlib.Core.Bool.{true, ◌&&◌, ◌||◌, not}
use mathlib.Core.Path.{◌≡◌, refl, sym, ap, ◌∙◌}
use native.Mathlib.Omega.{arith}
use borrow.Author.Tests.{ltb-true}
use lib.Dec.{ltb}
use lib.ListN.{get_or}
use Rattle.sets.specs.Sets.{members, minus, upto, within, apart}
use Rattle.sets.proofs.Laws.{contained}
use Rattle.model.specs.Sets.{Set, number}
use Rattle.model.specs.Firing.{Marking, holds_token, tokens_after, fire}
use Rattle.model.proofs.Tests.{and_left, and_right, and_both, imp_use, below_at}
use Rattle.transitions.specs.declared.Arcs.{Arcs}
use Rattle.net.specs.Walks.{passes_first, passes_last, passes}
use Rattle.net.specs.declared.marked.Marked.{Marked}
use Rattle.step.specs.Spare.{below}
use Rattle.step.specs.Places.{marking_of, with_tokens, reading, Movable, Firable}
use Rattle.step.specs.declared.places.PlaceKind.TheVariants.{Context, Pr, PrNot}
use Rattle.step.specs.declared.places.Places.{Places}

-- what the tests of a ready transition say
record Passed (a : Arcs) (s : Marked) (spare : ℕ) : Type 0 where
  context : within 64 (members a.takes_context) (members s.context) ≡ true
  pr : within 64 (members a.takes_pr) (members s.pr) ≡ true
  pr_not : within 64 (members a.takes_not) (members s.pr_not) ≡ true
  gained : within 64 (minus (members a.gives_context) (members a.takes_context)) (members spare) ≡ true

passed : (a : Arcs) (s : Marked) (spare : ℕ) → passes a s spare ≡ true → Passed a s spare
unfolding passes passes_first passes_last
passed a s spare e =
    let t₁ = apart 64 (members a.inhib_context) (members s.context) in
    let t₂ = within 64 (members a.takes_context) (members s.context) in
    let t₃ = within 64 (members a.takes_not) (members s.pr_not) in
    let t₄ = within 64 (members a.takes_pr) (members s.pr) in
    let t₅ = apart 64 (members a.inhib_pr) (members s.pr) in
    let t₆ = within 64 (minus (members a.gives_context) (members a.takes_context)) (members spare) in
    let f = and_left (t₁ && t₂ && t₃) (t₄ && t₅ && t₆) e in
    let g = and_right (t₁ && t₂ && t₃) (t₄ && t₅ && t₆) e in
    record {
      context = and_right t₁ t₂ (and_left (t₁ && t₂) t₃ f);
      pr = and_left t₄ t₅ (and_left (t₄ && t₅) t₆ g);
      pr_not = and_right (t₁ && t₂) t₃ f;
      gained = and_right (t₄ && t₅) t₆ g;
    }

-- a member of a set that a word contains has what the word shows
within_at : (n : ℕ) (f g : Set) {w : ℕ} → within 64 f (members w) ≡ true → w ≡ number 64 (upto n g) → (j : ℕ) → j < 64 → f j ≡ true → g j ≡ true
within_at n f g {w} e ew j h t =
    and_right (ltb j n) (g j)
    (sym (contained 64 (upto n g) ew j h) ∙ imp_use (f j) (members w j) (below_at 64 (λ i. not (f i) || members w i) e j h) t)

-- so it holds a token
token_at : (n : ℕ) → n ≤ 48 → (takes : Set) (tokens : ℕ → ℕ) {w : ℕ} → within 64 takes (members w) ≡ true → w ≡ number 64 (upto n (holds_token tokens))
    → (j : ℕ) → j < n → takes j ≡ true → 0 < tokens j
token_at n few takes tokens e ew j l t = ltb-true 0 (tokens j) (within_at n takes (holds_token tokens) e ew j (omega arith) t)

module _ (p : Places) (a : Arcs) (f : Firable p a) where
  test : Passed a p.marked p.spare
  test = passed a p.marked p.spare f.ready

  pub counts_movable : Movable p.contexts (members a.takes_context) (members a.gives_context) (λ j. get_or p.capacities j 0) (marking_of p).count
  counts_movable =
      let few = p.few in
      record {
        token = token_at p.contexts few (members a.takes_context) (marking_of p).count test.context p.shows.context;
        space = λ j l g t.
            ltb-true (get_or p.counts j 0) (get_or p.capacities j 0)
            (within_at p.contexts (minus (members a.gives_context) (members a.takes_context)) (below p.capacities p.counts) test.gained p.spare_is j (omega arith) (and_both g (ap not t)));
      }

  pub pr_movable : Movable p.contexts (members a.takes_pr) (members a.gives_pr) (λ j. 65535) (marking_of p).pr
  pr_movable =
      record {
        token = token_at p.contexts p.few (members a.takes_pr) (marking_of p).pr test.pr p.shows.pr;
        space = λ j l g t. omega (arith, f.low.pr j);
      }

  pub pr_not_movable : Movable p.contexts (members a.takes_not) (members a.gives_not) (λ j. 65535) (marking_of p).pr_not
  pr_not_movable =
      record {
        token = token_at p.contexts p.few (members a.takes_not) (marking_of p).pr_not test.pr_not p.shows.pr_not;
        space = λ j l g t. omega (arith, f.low.pr_not j);
      }

-- the places of the three kinds, one after the other
pub all_fired : (a : Arcs) {n n₁ n₂ : ℕ} (m m₁ m₂ m₃ : Marking) → n₁ ≡ n → n₂ ≡ n₁
    → m₁ ≡ with_tokens Context (tokens_after (upto n (members a.takes_context)) (upto n (members a.gives_context)) m.count) m
    → m₂ ≡ with_tokens Pr (tokens_after (upto n₁ (members a.takes_pr)) (upto n₁ (members a.gives_pr)) m₁.pr) m₁
    → m₃ ≡ with_tokens PrNot (tokens_after (upto n₂ (members a.takes_not)) (upto n₂ (members a.gives_not)) m₂.pr_not) m₂
    → m₃ ≡ fire (reading n a) m
unfolding reading fire
all_fired a m m₁ m₂ m₃ e₁ e₂ p₁ p₂ p₃ = rw (p₃, e₂, p₂, e₁, p₁) refl
