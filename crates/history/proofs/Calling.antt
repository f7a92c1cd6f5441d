-- When bytes are calls.
-- Assumes nothing.
use Rattle.std.proofs.Common.{◌≡◌, ℕ, zero, suc, ◌/◌, ◌%◌, ◌<◌, Bool, true, false, cond, ◌||◌, not, List, [], ◌∷◌, length, get_or, refl, sym, subst, ap, ◌∙◌, arith, map}
use lib.Dec.{eqb, ltb}
use borrow.Author.Tests.{ne_eqb}
use Rattle.std.specs.Prelude.{Option, Some, None, IfSome, IfNone, Result, Ok, Err, MatchResult}
use Rattle.std.specs.Result.{is_err}
use Rattle.std.specs.Borrow.{Bor}
use Rattle.std.specs.Bool.{then_some}
use Rattle.std.specs.List.{list_any}
use Rattle.model.proofs.Tests.{or_false_left, or_false_right}
use Rattle.std.specs.Simd.{first_chunks}
use Rattle.model.specs.declared.Call.{Call}
use Rattle.model.specs.Calls.{call_from, call_of_bytes, is_unknown, ReadsCall}
use Rattle.model.specs.declared.calls.UnknownCall.{UnknownCall}
use Rattle.history.specs.Encoding.{calls_in, unknown_call, no_calls}

pub unknown_chunks : (bs : List ℕ) → unknown_call bs ≡ list_any is_unknown (first_chunks 3 (length bs / 3) bs)
unfolding unknown_call
unknown_chunks [] = refl
unknown_chunks (a ∷ []) = refl
unknown_chunks (a ∷ b ∷ []) = refl
unknown_chunks (a ∷ b ∷ c ∷ bs) =
    let more : (suc (suc (suc (length bs)))) / 3 ≡ suc (length bs / 3) = omega arith in
    ap (λ (x : Bool). ltb 3 a || x) (unknown_chunks bs) ∙ rw more refl

-- the calls in bytes, by their triples
pub calls_chunks : (bs : List ℕ) → calls_in bs ≡ map call_of_bytes (first_chunks 3 (length bs / 3) bs)
unfolding calls_in
calls_chunks [] = refl
calls_chunks (a ∷ []) = refl
calls_chunks (a ∷ b ∷ []) = refl
calls_chunks (a ∷ b ∷ c ∷ bs) =
    let more : (suc (suc (suc (length bs)))) / 3 ≡ suc (length bs / 3) = omega arith in
    ap (λ (l : List Call). call_of_bytes (a ∷ b ∷ c ∷ []) ∷ l) (calls_chunks bs) ∙ rw more refl

-- bytes that are whole calls, and bytes that are not
pub whole : (bs : List ℕ) → length bs % 3 ≡ 0 → no_calls bs ≡ list_any is_unknown (first_chunks 3 (length bs / 3) bs)
whole bs none_left = ap (λ (k : ℕ). not (eqb k 0) || unknown_call bs) none_left ∙ unknown_chunks bs

pub not_whole : (bs : List ℕ) → 0 < length bs % 3 → no_calls bs ≡ true
not_whole bs left = ap (λ (b : Bool). not b || unknown_call bs) (ne_eqb (length bs % 3) 0 (λ e. omega arith))

-- a call of a list of known calls
pub known_call : (calls : List (List ℕ)) (i : ℕ) → list_any is_unknown calls ≡ false → i < length calls → call_from (get_or calls i []) ≡ Some (call_of_bytes (get_or calls i []))
known_call [] i known inside = absurd (omega arith)
known_call (b ∷ bs) zero known inside =
    ap (λ (x : Bool). cond x None (Some (call_of_bytes b))) (or_false_left (is_unknown b) (list_any is_unknown bs) known)
known_call (b ∷ bs) (suc i) known inside = known_call bs i (or_false_right (is_unknown b) (list_any is_unknown bs) known) (omega arith)

-- the call that is read of a list of known calls
pub called : (calls : List (List ℕ)) (i : ℕ) → list_any is_unknown calls ≡ false → i < length calls → (r : Result Call UnknownCall) (call : Call)
    → ReadsCall (get_or calls i []) r → r ≡ Ok call → call ≡ call_of_bytes (get_or calls i [])
called calls i known inside (Ok x) call h is = let k = known_call calls i known inside in cc
called calls i known inside (Err e) call h is = absurd (cc)

-- no call is read of three bytes where the first is none
pub no_call : (b : List ℕ) (r : Result Call UnknownCall) → ReadsCall b r → is_err r ≡ is_unknown b
no_call b r h = by r (is_unknown b) refl h
  where
    by : (r : Result Call UnknownCall) (u : Bool) → is_unknown b ≡ u
        → MatchResult r (λ call. cond u None (Some (call_of_bytes b)) ≡ Some call) (λ e. (e.0 ≡ get_or b 0 0) × (cond u None (Some (call_of_bytes b)) ≡ None))
        → is_err r ≡ u
    by (Ok call) true e h = absurd (cc)
    by (Ok call) false e h = refl
    by (Err e) true q h = refl
    by (Err e) false q h = let n = h.1 in absurd (cc)

-- what is told of the calls that bytes are
pub record Found (bs : List ℕ) (r : Option (Bor (List (List ℕ)))) : Type 0 where
  pub none : IfNone r (no_calls bs ≡ true)
  pub some : IfSome r (λ _. no_calls bs ≡ false)
  pub calls : IfSome r (λ c. map call_of_bytes c.now ≡ calls_in bs)
  pub known : IfSome r (λ c. list_any is_unknown c.now ≡ false)

-- and by the test of whether they are
pub found : (bs : List ℕ) (c : Bor (List (List ℕ))) (k : Bool) (r : Option (Bor (List (List ℕ)))) → c.now ≡ first_chunks 3 (length bs / 3) bs
    → k ≡ not (no_calls bs) → r ≡ then_some k c → Found bs r
found bs c k r front test is = subst (λ (o : Option (Bor (List (List ℕ)))). Found bs o) (sym is) (by k (no_calls bs) test refl)
  where
    by : (k b : Bool) → k ≡ not b → no_calls bs ≡ b → Found bs (then_some k c)
    by true true e n = absurd (cc)
    by true false e n =
        record {
          none = tt;
          some = n;
          calls = ap (map call_of_bytes) front ∙ sym (calls_chunks bs);
          known = ap (list_any is_unknown) front ∙ sym (unknown_chunks bs) ∙ or_false_right (not (eqb (length bs % 3) 0)) (unknown_call bs) n;
        }
    by false true e n = record { none = n; some = tt; calls = tt; known = tt }
    by false false e n = absurd (cc)
