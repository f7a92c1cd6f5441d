-- Calls in bytes, one by one: which call three bytes are, when bytes are calls, and how many there are.
-- Assumes nothing.
use Prim.Native.Nat.{ℕ, zero, suc, ◌+◌, ◌*◌, ◌/◌, ◌%◌, ◌<◌, ◌≤◌}
use native.Mathlib.Numerals.{add-one}
use native.Mathlib.Omega.{arith}
use mathlib.Core.Path.{◌≡◌, refl, sym, ap, ap₂, subst, ◌∙◌}
use mathlib.Core.Bool.{Bool, true, false, ◌||◌, not}
use mathlib.Core.List.{List, [], ◌∷◌, ◌++◌}
use lib.Dec.{ltb, eqb}
use lib.ListN.{length, get_or, take, drop}
use lib.Seq.{drop-length, take-suc}
use borrow.Author.Tests.{ne_eqb, eq-eqb, lt-ltb, le-ltb}
use Rattle.model.specs.declared.Call.{Call}
use Rattle.model.specs.declared.Call.TheVariants.{Activate, Deactivate, Undo, Settle}
use Rattle.model.specs.Calls.{call_in}
use Rattle.history.specs.Encoding.{calls_in, unknown_call, no_calls}

module _ (k low high : ℕ) where
  pub call_0 : (c : ℕ) → k ≡ 0 → c ≡ low + 256 * high → Activate c ≡ call_in k low high
  call_0 c e p = ap Activate p ∙ sym (ap (λ (x : ℕ). call_in x low high) e)

  pub call_1 : (c : ℕ) → k ≡ 1 → c ≡ low + 256 * high → Deactivate c ≡ call_in k low high
  call_1 c e p = ap Deactivate p ∙ sym (ap (λ (x : ℕ). call_in x low high) e)

  pub call_2 : k ≡ 2 → Undo ≡ call_in k low high
  call_2 e = sym (ap (λ (x : ℕ). call_in x low high) e)

  pub call_rest : (k ≡ 0 → ⊥) → (k ≡ 1 → ⊥) → (k ≡ 2 → ⊥) → Settle ≡ call_in k low high
  call_rest a b d = sym (rw (ne_eqb k 0 a, ne_eqb k 1 b, ne_eqb k 2 d))

-- what the calls from the k-th on say, by its first byte and those behind it
unknown_step : (k : ℕ) (bs : List ℕ) → 3 * k + 2 < length bs → unknown_call (drop (3 * k) bs) ≡ (ltb 3 (get_or bs (3 * k) 0) || unknown_call (drop (3 * k + 3) bs))
unfolding unknown_call
unknown_step zero [] h = absurd (omega arith)
unknown_step zero (a ∷ []) h = absurd (omega arith)
unknown_step zero (a ∷ b ∷ []) h = absurd (omega arith)
unknown_step zero (a ∷ b ∷ c ∷ bs) h = refl
unknown_step (suc k) [] h = absurd (omega arith)
unknown_step (suc k) (a ∷ []) h = absurd (omega arith)
unknown_step (suc k) (a ∷ b ∷ []) h = absurd (omega arith)
unknown_step (suc k) (a ∷ b ∷ c ∷ bs) h =
    let l = a ∷ b ∷ c ∷ bs in
    let p : 3 * suc k ≡ suc (suc (suc (3 * k))) = omega arith in
    let p₃ : 3 * suc k + 3 ≡ suc (suc (suc (3 * k + 3))) = omega arith in
    ap (λ (j : ℕ). unknown_call (drop j l)) p ∙ unknown_step k bs (omega arith)
    ∙ sym (λ i. ltb 3 (get_or l (p i) 0) || unknown_call (drop (p₃ i) l))

pub unknown_next : (i : ℕ) (bs : List ℕ) → i % 3 ≡ 0 → i + 2 < length bs → unknown_call (drop i bs) ≡ (ltb 3 (get_or bs i 0) || unknown_call (drop (i + 3) bs))
unknown_next i bs whole h =
    let e : 3 * (i / 3) ≡ i = omega arith in
    subst (λ (j : ℕ). unknown_call (drop j bs) ≡ (ltb 3 (get_or bs j 0) || unknown_call (drop (j + 3) bs))) e
    (unknown_step (i / 3) bs (subst (λ (j : ℕ). j + 2 < length bs) (sym e) h))

or_true : (b : Bool) → (b || true) ≡ true
or_true true = refl
or_true false = refl

-- bytes that are not whole calls; a call that is none of the four; and neither
pub calls_torn : (bs : List ℕ) → (length bs % 3 ≡ 0 → ⊥) → false ≡ not (no_calls bs)
calls_torn bs h = sym (ap (λ (b : Bool). not (not b || unknown_call bs)) (ne_eqb (length bs % 3) 0 h))

pub calls_unknown : (i : ℕ) (bs : List ℕ) → i % 3 ≡ 0 → i + 2 < length bs → unknown_call (drop i bs) ≡ unknown_call bs → 3 < get_or bs i 0 → false ≡ not (no_calls bs)
calls_unknown i bs whole h same big =
    let u : unknown_call bs ≡ true = sym same ∙ unknown_next i bs whole h ∙ ap (λ (b : Bool). b || unknown_call (drop (i + 3) bs)) (lt-ltb 3 (get_or bs i 0) big) in
    sym (ap (λ (b : Bool). not (not (eqb (length bs % 3) 0) || b)) u ∙ ap not (or_true (not (eqb (length bs % 3) 0))))

pub calls_known : (i : ℕ) (bs : List ℕ) → i % 3 ≡ 0 → i + 2 < length bs → unknown_call (drop i bs) ≡ unknown_call bs → get_or bs i 0 ≤ 3
    → unknown_call (drop (i + 3) bs) ≡ unknown_call bs
calls_known i bs whole h same small =
    sym (unknown_next i bs whole h ∙ ap (λ (b : Bool). b || unknown_call (drop (i + 3) bs)) (le-ltb 3 (get_or bs i 0) small)) ∙ same

pub calls_whole : (i : ℕ) (bs : List ℕ) → length bs % 3 ≡ 0 → i ≡ length bs → unknown_call (drop i bs) ≡ unknown_call bs → true ≡ not (no_calls bs)
unfolding unknown_call
calls_whole i bs whole e same =
    let none : unknown_call bs ≡ false = sym same ∙ ap unknown_call (ap (λ (k : ℕ). drop k bs) e ∙ drop-length bs) in
    sym (ap₂ (λ (b u : Bool). not (not b || u)) (eq-eqb (length bs % 3) 0 whole) none)

-- how many calls bytes are
pub calls_count : (bs : List ℕ) → length (calls_in bs) ≡ length bs / 3
unfolding calls_in
calls_count [] = refl
calls_count (a ∷ []) = refl
calls_count (a ∷ b ∷ []) = refl
calls_count (a ∷ b ∷ c ∷ bs) = let i = calls_count bs in omega arith

-- call k by its bytes
calls_at : (k : ℕ) (bs : List ℕ) (d : Call) → k < length bs / 3
    → get_or (calls_in bs) k d ≡ call_in (get_or bs (3 * k) 0) (get_or bs (3 * k + 1) 0) (get_or bs (3 * k + 2) 0)
unfolding calls_in
calls_at k [] d h = absurd (omega arith)
calls_at k (a ∷ []) d h = absurd (omega arith)
calls_at k (a ∷ b ∷ []) d h = absurd (omega arith)
calls_at zero (a ∷ b ∷ c ∷ bs) d h = refl
calls_at (suc k) (a ∷ b ∷ c ∷ bs) d h =
    let l = a ∷ b ∷ c ∷ bs in
    let p : 3 * suc k ≡ suc (suc (suc (3 * k))) = omega arith in
    let p₁ : 3 * suc k + 1 ≡ suc (suc (suc (3 * k + 1))) = omega arith in
    let p₂ : 3 * suc k + 2 ≡ suc (suc (suc (3 * k + 2))) = omega arith in
    calls_at k bs d (omega arith) ∙ sym (λ i. call_in (get_or l (p i) 0) (get_or l (p₁ i) 0) (get_or l (p₂ i) 0))

-- the first k calls, and one more
calls_more : (k : ℕ) (bs : List ℕ) → k < length bs / 3
    → take (k + 1) (calls_in bs) ≡ take k (calls_in bs) ++ (call_in (get_or bs (3 * k) 0) (get_or bs (3 * k + 1) 0) (get_or bs (3 * k + 2) 0) ∷ [])
calls_more k bs h = rw (add-one k, take-suc (calls_in bs) k Undo (omega (arith, calls_count bs)), calls_at k bs Undo h)
