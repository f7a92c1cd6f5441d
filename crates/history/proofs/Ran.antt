-- What a run leaves, by whether the bytes are calls.
-- Assumes nothing.
use Rattle.std.proofs.Common.{◌≡◌, ℕ, Bool, true, false, ◌||◌, cond, ltb, List, ◌++◌, length, map, drop, refl, sym, subst, ap, ap₂, ◌∙◌, ◌<◌, arith}
use borrow.Author.Tests.{ltb-true, ltb-false}
use Rattle.std.specs.Prelude.{Option, IfSome}
use Rattle.std.specs.Option.{unwrap_or}
use Rattle.model.specs.Machine.{State, fresh}
use Rattle.model.specs.declared.Call.{Call}
use Rattle.history.specs.Chains.{loaded}
use Rattle.model.specs.Calls.{call_of_bytes}
use Rattle.history.specs.Encoding.{calls_in, no_calls}
use Rattle.history.specs.Reports.{Ran, Reports, report, report_from, ran}
use Rattle.history.proofs.Reporting.{report_length}

pub ran_none : (img bs out : List ℕ) → no_calls bs ≡ true → record { written = 0; output = out } ≡ ran img bs out
unfolding ran
ran_none img bs out h =
    let r = report (loaded img) (calls_in bs) in
    sym (ap (λ (b : Bool). cond (b || ltb (length out) (length r)) (record { written = 0; output = out }) (record { written = length r; output = r ++ drop (length r) out })) h)

-- the run of known calls on the engine loaded from an image, whose state is s
pub ran_some : (img bs out : List ℕ) (s : State) (triples : List (List ℕ)) (r : Option ℕ) (out' : List ℕ) → no_calls bs ≡ false → s ≡ fresh (loaded img)
    → map call_of_bytes triples ≡ calls_in bs → Reports (report_from s (map call_of_bytes triples)) out r out'
    → record { written = unwrap_or r 0; output = out' } ≡ ran img bs out
unfolding ran
ran_some img bs out s triples r out' known fresh_is triples_are p =
    go (ltb (length out) (length t)) refl ∙ sym (ap (λ (b : Bool). by (b || ltb (length out) (length t))) known)
  where
    t : List ℕ
    t = report (loaded img) (calls_in bs)

    by : Bool → Ran
    by b = cond b (record { written = 0; output = out }) (record { written = length t; output = t ++ drop (length t) out })

    same : report_from s (map call_of_bytes triples) ≡ t
    same = ap₂ report_from fresh_is triples_are

    q : Reports t out r out'
    q = subst (λ (x : List ℕ). Reports x out r out') same p

    go : (b : Bool) → ltb (length out) (length t) ≡ b → record { written = unwrap_or r 0; output = out' } ≡ by b
    go true h = let x = q.short (ltb-true (length out) (length t) h) in λ i. record { written = unwrap_or (x.0 i) 0; output = x.1 i }
    go false h = let x = q.long (ltb-false (length out) (length t) h) in λ i. record { written = unwrap_or (x.0 i) 0; output = x.1 i }

-- what is written has some length
pub some_written : (s : State) (cs : List Call) (out : List ℕ) (r : Option ℕ) (out' : List ℕ) → Reports (report_from s cs) out r out' → IfSome r (λ k. 0 < k)
some_written s cs out r out' p = go (ltb (length out) (length t)) refl
  where
    t : List ℕ
    t = report_from s cs

    go : (b : Bool) → ltb (length out) (length t) ≡ b → IfSome r (λ k. 0 < k)
    go true h =
        let x = p.short (ltb-true (length out) (length t) h) in
        subst (λ (o : Option ℕ). IfSome o (λ k. 0 < k)) (sym x.0) tt
    go false h =
        let x = p.long (ltb-false (length out) (length t) h) in
        let long : 0 < length t = omega (arith, report_length s cs) in
        subst (λ (o : Option ℕ). IfSome o (λ k. 0 < k)) (sym x.0) long
