-- Sets that are renewed at one context, and arrays of which one entry changes.
-- Assumes nothing.
use Prim.Native.Nat.{ℕ, ◌+◌, ◌<◌, ◌≤◌}
use mathlib.Core.Bool.{Bool, cond, ◌&&◌}
use mathlib.Core.Path.{◌≡◌, sym, ap, subst, ◌∙◌, fun_ext}
use mathlib.Core.List.{List}
use native.Mathlib.Decide.{ℕ_discrete, dec_lt}
use native.Mathlib.Omega.{arith}
use borrow.Author.Tests.{lt-ltb, le-ltb, eq-eqb, ne_eqb}
use lib.Dec.{eqb, ltb}
use lib.ListN.{length, get_or, set}
use lib.Seq.{get_or-set_same, get_or-set_other}
use Rattle.sets.specs.Sets.{members, upto, assigned}
use Rattle.sets.proofs.Laws.{contained, zero_holds}
use Rattle.model.specs.Sets.{empty_set, number}
use Rattle.model.specs.Firing.{Marking, holds_token}
use Rattle.model.specs.Machine.{zeros}
use Rattle.model.proofs.Masks.{number_cong}
use Rattle.net.specs.Markings.{counts_in, marking, Shows}
use Rattle.net.specs.declared.marked.Marked.{Marked}
use Rattle.std.proofs.Math.Bool.{and-false}
use Rattle.step.specs.Spare.{spare_word}
use Rattle.step.specs.Places.{with_tokens, put}
use Rattle.step.specs.declared.places.PlaceKind.TheVariants.{Context, Pr, PrNot}

-- a set of the first n numbers that pass a test of theirs and of what stands there, where x is put at c
pub put_word : (w n : ℕ) (test : ℕ → ℕ → Bool) (f : ℕ → ℕ) (c x : ℕ) {a r : ℕ} → c < n
    → a ≡ number w (upto n (λ j. test j (f j))) → r ≡ number w (assigned (members a) c (test c x))
    → r ≡ number w (upto n (λ j. test j (put c x f j)))
put_word w n test f c x {a} {r} h ha e =
    e ∙ number_cong w (assigned (members a) c (test c x)) (upto n (λ j. test j (put c x f j))) (λ j l. at j l (ℕ_discrete j c))
  where
    at : (j : ℕ) → j < w → Dec (j ≡ c) → assigned (members a) c (test c x) j ≡ (ltb j n && test j (put c x f j))
    at j l (yes q) =
        ap (λ (b : Bool). cond b (test c x) (members a j)) (eq-eqb j c q)
        ∙ sym (ap (λ (b : Bool). ltb j n && test j (cond b x (f j))) (eq-eqb j c q) ∙ ap (λ (i : ℕ). ltb i n && test i x) q ∙ ap (λ (b : Bool). b && test c x) (lt-ltb c n h))
    at j l (no d) =
        ap (λ (b : Bool). cond b (test c x) (members a j)) (ne_eqb j c d)
        ∙ contained w (upto n (λ i. test i (f i))) ha j l
        ∙ sym (ap (λ (b : Bool). ltb j n && test j (cond b x (f j))) (ne_eqb j c d))

-- an array of which one entry changes
put_entry : (l : List ℕ) (p x j : ℕ) → p < length l → get_or (set l p x) j 0 ≡ put p x (λ i. get_or l i 0) j
put_entry l p x j h = go (ℕ_discrete j p)
  where
    go : Dec (j ≡ p) → get_or (set l p x) j 0 ≡ cond (eqb j p) x (get_or l j 0)
    go (yes q) = ap (λ (i : ℕ). get_or (set l p x) i 0) q ∙ get_or-set_same l p x 0 h ∙ sym (ap (λ (b : Bool). cond b x (get_or l j 0)) (eq-eqb j p q))
    go (no d) = get_or-set_other l p j x 0 d ∙ sym (ap (λ (b : Bool). cond b x (get_or l j 0)) (ne_eqb j p d))

-- the marking in two arrays, where an entry of the first changes, or one of either half of the second
pub set_count : (counts temps : List ℕ) (c x : ℕ) → c < length counts
    → marking (set counts c x) temps ≡ with_tokens Context (put c x (marking counts temps).count) (marking counts temps)
set_count counts temps c x h = λ i. record { count = λ j. put_entry counts c x j h i; pr = (marking counts temps).pr; pr_not = (marking counts temps).pr_not }

pub set_pr : (counts temps : List ℕ) (c x : ℕ) → c < 48 → length temps ≡ 96
    → marking counts (set temps c x) ≡ with_tokens Pr (put c x (marking counts temps).pr) (marking counts temps)
set_pr counts temps c x h size = λ i. record { count = counts_in counts; pr = λ j. first j (dec_lt j 48) i; pr_not = λ j. second j i }
  where
    first : (j : ℕ) → Dec (j < 48) → cond (ltb j 48) (get_or (set temps c x) j 0) 0 ≡ put c x (λ k. cond (ltb k 48) (get_or temps k 0) 0) j
    first j (yes k) =
        ap (λ (b : Bool). cond b (get_or (set temps c x) j 0) 0) (lt-ltb j 48 k) ∙ put_entry temps c x j (omega arith)
        ∙ sym (ap (λ (b : Bool). cond (eqb j c) x (cond b (get_or temps j 0) 0)) (lt-ltb j 48 k))
    first j (no k) =
        ap (λ (b : Bool). cond b (get_or (set temps c x) j 0) 0) (le-ltb j 48 (omega arith))
        ∙ sym (ap (λ (b : Bool). cond b x (cond (ltb j 48) (get_or temps j 0) 0)) (ne_eqb j c (λ q. omega arith)) ∙ ap (λ (b : Bool). cond b (get_or temps j 0) 0) (le-ltb j 48 (omega arith)))

    second : (j : ℕ) → get_or (set temps c x) (48 + j) 0 ≡ get_or temps (48 + j) 0
    second j = get_or-set_other temps c (48 + j) x 0 (λ q. omega arith)

pub set_pr_not : (counts temps : List ℕ) (c x : ℕ) → c < 48 → length temps ≡ 96
    → marking counts (set temps (48 + c) x) ≡ with_tokens PrNot (put c x (marking counts temps).pr_not) (marking counts temps)
set_pr_not counts temps c x h size = λ i. record { count = counts_in counts; pr = λ j. first j (dec_lt j 48) i; pr_not = λ j. second j i }
  where
    first : (j : ℕ) → Dec (j < 48) → cond (ltb j 48) (get_or (set temps (48 + c) x) j 0) 0 ≡ cond (ltb j 48) (get_or temps j 0) 0
    first j (yes k) = ap (λ (y : ℕ). cond (ltb j 48) y 0) (get_or-set_other temps (48 + c) j x 0 (λ q. omega arith))
    first j (no k) =
        ap (λ (b : Bool). cond b (get_or (set temps (48 + c) x) j 0) 0) (le-ltb j 48 (omega arith))
        ∙ sym (ap (λ (b : Bool). cond b (get_or temps j 0) 0) (le-ltb j 48 (omega arith)))

    second : (j : ℕ) → get_or (set temps (48 + c) x) (48 + j) 0 ≡ put c x (λ k. get_or temps (48 + k) 0) j
    second j = put_entry temps (48 + c) x (48 + j) (omega arith) ∙ ap (λ (b : Bool). cond b x (get_or temps (48 + j) 0)) (same (ℕ_discrete j c))
      where
        same : Dec (j ≡ c) → eqb (48 + j) (48 + c) ≡ eqb j c
        same (yes q) = eq-eqb (48 + j) (48 + c) (ap (λ (z : ℕ). 48 + z) q) ∙ sym (eq-eqb j c q)
        same (no q) = ne_eqb (48 + j) (48 + c) (λ z. q (omega arith)) ∙ sym (ne_eqb j c q)

-- the words of a marking where the tokens of one place change
module _ {n : ℕ} (counts temps : List ℕ) (s : Marked) (sh : Shows n (marking counts temps) s) (few : n ≤ 48) (c x : ℕ) (h : c < n) {r : ℕ} where
  pub count_shown : length counts ≡ 48 → r ≡ number 64 (assigned (members s.context) c (ltb 0 x))
      → Shows n (marking (set counts c x) temps) (record { context = r; pr = s.pr; pr_not = s.pr_not })
  count_shown size e =
      subst (λ (m : Marking). Shows n m (record { context = r; pr = s.pr; pr_not = s.pr_not })) (sym (set_count counts temps c x (omega arith)))
      (record { context = put_word 64 n (λ j y. ltb 0 y) (marking counts temps).count c x h sh.context e; pr = sh.pr; pr_not = sh.pr_not })

  pub pr_shown : length temps ≡ 96 → r ≡ number 64 (assigned (members s.pr) c (ltb 0 x))
      → Shows n (marking counts (set temps c x)) (record { context = s.context; pr = r; pr_not = s.pr_not })
  pr_shown size e =
      subst (λ (m : Marking). Shows n m (record { context = s.context; pr = r; pr_not = s.pr_not })) (sym (set_pr counts temps c x (omega arith) size))
      (record { context = sh.context; pr = put_word 64 n (λ j y. ltb 0 y) (marking counts temps).pr c x h sh.pr e; pr_not = sh.pr_not })

  pub pr_not_shown : length temps ≡ 96 → r ≡ number 64 (assigned (members s.pr_not) c (ltb 0 x))
      → Shows n (marking counts (set temps (48 + c) x)) (record { context = s.context; pr = s.pr; pr_not = r })
  pr_not_shown size e =
      subst (λ (m : Marking). Shows n m (record { context = s.context; pr = s.pr; pr_not = r })) (sym (set_pr_not counts temps c x (omega arith) size))
      (record { context = sh.context; pr = sh.pr; pr_not = put_word 64 n (λ j y. ltb 0 y) (marking counts temps).pr_not c x h sh.pr_not e })

-- and the set of the contexts below their capacity, where a count changes
pub spare_shown : (n : ℕ) (capacities counts : List ℕ) (c x : ℕ) {a r : ℕ} → c < n → c < length counts → a ≡ spare_word n capacities counts
    → r ≡ number 64 (assigned (members a) c (ltb x (get_or capacities c 0))) → r ≡ spare_word n capacities (set counts c x)
spare_shown n capacities counts c x h l ha e =
    put_word 64 n (λ j y. ltb y (get_or capacities j 0)) (counts_in counts) c x h ha e
    ∙ ap (λ (f : ℕ → ℕ). number 64 (upto n (λ j. ltb (f j) (get_or capacities j 0)))) (sym (fun_ext (λ j. put_entry counts c x j l)))

-- no place of empty ones holds a token
pub upto_zeros : (w n : ℕ) → 0 ≡ number w (upto n (holds_token zeros))
upto_zeros w n = zero_holds w ∙ number_cong w empty_set (upto n (holds_token zeros)) (λ j l. sym (and-false (ltb j n)))
