-- The marking in which a request's step begins, and what is left of it at the end.
-- Assumes nothing.
use Prim.Native.Nat.{ℕ, zero, suc, ◌+◌, ◌≤◌}
use mathlib.Core.Bool.{Bool, true, false, cond, ◌&&◌, not}
use mathlib.Core.Path.{◌≡◌, refl, sym, ap, ap₂, ◌∙◌}
use mathlib.Core.List.{List}
use native.Mathlib.Omega.{arith}
use borrow.Author.Tests.{lt-ltb, le-ltb, ne_eqb}
use lib.Dec.{eqb, ltb}
use lib.ListN.{get_or, replicate}
use Rattle.sets.specs.Sets.{upto}
use Rattle.sets.proofs.Laws.{none_holds, below_narrow, below_cong}
use Rattle.model.specs.Sets.{singleton, bit, number, all_below}
use Rattle.model.specs.Firing.{Marking, holds_token, is_empty}
use Rattle.model.specs.Machine.{Counts, initial_marking, zeros}
use Rattle.model.specs.declared.Request.{Request}
use Rattle.model.specs.Claims.{at_rest}
use Rattle.model.proofs.Masks.{bit_lt}
use Rattle.net.specs.Markings.{counts_in, marking, Shows, AtMost}
use Rattle.net.specs.declared.marked.Marked.{Marked}
use Rattle.net.proofs.Readiness.{all_and}
use Rattle.step.specs.Places.{put, put_at, cleared}
use Rattle.step.specs.declared.places.PlaceKind.TheVariants.{Pr, PrNot}
use Rattle.step.proofs.Gathering.{zeros_at}
use Rattle.step.proofs.Renewal.{upto_zeros}

-- no token on a temporary place
pr_none : (b : Bool) (j : ℕ) → ◌≡◌ {A = ℕ} (cond b (get_or (replicate 96 0) j 0) 0) 0
pr_none true j = zeros_at 96 j
pr_none false j = refl

pub rests : (counts : List ℕ) → marking counts (replicate 96 0) ≡ at_rest (counts_in counts)
rests counts = λ i. record { count = counts_in counts; pr = λ c. pr_none (ltb c 48) c i; pr_not = λ c. zeros_at 96 (48 + c) i }

pub rests_shown : (n : ℕ) (counts : List ℕ) {active pr pr_not : ℕ} → active ≡ number 64 (upto n (holds_token (counts_in counts))) → pr ≡ 0 → pr_not ≡ 0
    → Shows n (marking counts (replicate 96 0)) (record { context = active; pr = pr; pr_not = pr_not })
rests_shown n counts e z z' =
    record {
      context = e;
      pr = z ∙ upto_zeros 64 n ∙ ap (λ (m : Marking). number 64 (upto n (holds_token m.pr))) (sym (rests counts));
      pr_not = z' ∙ upto_zeros 64 n ∙ ap (λ (m : Marking). number 64 (upto n (holds_token m.pr_not))) (sym (rests counts));
    }

-- one token there
one_at : (c j : ℕ) → put c 1 zeros j ≡ bit (singleton c j)
one_at c j = go (eqb j c)
  where
    go : (b : Bool) → cond b 1 0 ≡ bit b
    go true = refl
    go false = refl

pub begun : (m : Counts) (on : Bool) (c : ℕ) → put_at (cond on Pr PrNot) c 1 (at_rest m) ≡ initial_marking m (record { on = on; context = c })
unfolding initial_marking
begun m true c = λ i. record { count = m; pr = λ j. one_at c j i; pr_not = zeros }
begun m false c = λ i. record { count = m; pr = zeros; pr_not = λ j. one_at c j i }

-- no temporary place holds more than one: where none holds any, where one more is put on one, and so where a request begins
pub rests_low : (m : Counts) → AtMost 1 (at_rest m)
rests_low m = record { pr = λ c. omega arith; pr_not = λ c. omega arith }

pub put_low : (on : Bool) (c : ℕ) (m : Marking) → AtMost 1 m → AtMost 1 (put_at (cond on Pr PrNot) c 1 m)
put_low on c m l = go on
  where
    one : (b : Bool) (x : ℕ) → x ≤ 1 → cond b 1 x ≤ 1
    one true x h = omega arith
    one false x h = h

    go : (b : Bool) → AtMost 1 (put_at (cond b Pr PrNot) c 1 m)
    go true = record { pr = λ j. one (eqb j c) (m.pr j) (l.pr j); pr_not = l.pr_not }
    go false = record { pr = l.pr; pr_not = λ j. one (eqb j c) (m.pr_not j) (l.pr_not j) }

pub one_most : (m : Counts) (r : Request) → AtMost 1 (initial_marking m r)
unfolding initial_marking
one_most m r = record { pr = λ c. omega (arith, bit_lt (r.on && singleton r.context c)); pr_not = λ c. omega (arith, bit_lt (not r.on && singleton r.context c)) }

-- a word of places of one kind is 0 where none of them holds a token
empty_word : (n : ℕ) → n ≤ 64 → (f : ℕ → ℕ) {w : ℕ} → w ≡ number 64 (upto n (holds_token f)) → eqb w 0 ≡ all_below n (is_empty f)
empty_word n few f e =
    none_holds 64 (upto n (holds_token f)) e
    ∙ below_narrow n 64 (λ j. not (upto n (holds_token f) j)) few (λ j l. ap (λ (x : Bool). not (x && ltb 0 (f j))) (le-ltb j n l))
    ∙ below_cong n (λ j. not (upto n (holds_token f) j)) (is_empty f) (λ j l. ap (λ (x : Bool). not (x && ltb 0 (f j))) (lt-ltb j n l) ∙ no_token (f j))
  where
    no_token : (x : ℕ) → not (ltb 0 x) ≡ eqb x 0
    no_token zero = refl
    no_token (suc x) = ap not (lt-ltb 0 (suc x) (omega arith)) ∙ sym (ne_eqb (suc x) 0 (λ q. omega arith))

pub both_empty : (n : ℕ) → n ≤ 48 → (m : Marking) (s : Marked) → Shows n m s → (eqb s.pr 0 && eqb s.pr_not 0) ≡ cleared n m
both_empty n few m s sh =
    ap₂ (λ (x y : Bool). x && y) (empty_word n (omega arith) m.pr sh.pr) (empty_word n (omega arith) m.pr_not sh.pr_not)
    ∙ all_and n (is_empty m.pr) (is_empty m.pr_not)
