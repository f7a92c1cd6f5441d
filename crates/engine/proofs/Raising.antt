-- Laws of the totals.
-- Assumes nothing.
use Prim.Native.Nat.{ℕ, ◌≤◌}
use native.Mathlib.Omega.{arith}
use mathlib.Core.Path.{◌≡◌, sym, subst}
use mathlib.Core.Bool.{Bool, false, not}
use Rattle.model.specs.Sets.{bit}
use Rattle.model.specs.Refusals.{is_granted}
use Rattle.model.specs.Machine.{saturating_add, total_limit, tally_after}
use Rattle.model.specs.declared.Tally.{Tally}
use Rattle.model.specs.declared.Refusal.{Refusal}
use Rattle.model.specs.declared.Call.{Call}
use Rattle.model.specs.declared.Call.TheVariants.{Activate, Deactivate, Undo, Settle}
use Rattle.model.specs.declared.Verdict.{Verdict}
use Rattle.model.specs.declared.Verdict.TheVariants.{Granted, Refused}

-- each total, and one more where its test holds
abbrev pub raise : Tally → (granted refused undone : Bool) → Tally
raise t granted refused undone =
    record {
      granted = saturating_add t.granted (bit granted);
      refused = saturating_add t.refused (bit refused);
      undone = saturating_add t.undone (bit undone);
    }

-- a total that nothing is added to
pub unraised : (x : ℕ) → x ≤ total_limit → x ≡ saturating_add x 0
unraised x h = omega arith

module _ (t : Tally) (call : Call) (v : Verdict) (done : Bool) (e : done ≡ is_granted v) where
  pub activation_tally : {c : ℕ} → call ≡ Activate c → raise t done (not done) false ≡ tally_after t call v
  unfolding tally_after
  activation_tally p =
      subst (λ (k : Call). raise t done (not done) false ≡ tally_after t k v) (sym p) (λ i. raise t (e i) (not (e i)) false)

  pub deactivation_tally : {c : ℕ} → call ≡ Deactivate c → raise t done (not done) false ≡ tally_after t call v
  unfolding tally_after
  deactivation_tally p =
      subst (λ (k : Call). raise t done (not done) false ≡ tally_after t k v) (sym p) (λ i. raise t (e i) (not (e i)) false)

  pub undo_tally : call ≡ Undo → raise t false (not done) done ≡ tally_after t call v
  unfolding tally_after
  undo_tally p = subst (λ (k : Call). raise t false (not done) done ≡ tally_after t k v) (sym p) (λ i. raise t false (not (e i)) (e i))

-- no total is above its limit
pub record Below (t : Tally) : Type 0 where
  pub granted : t.granted ≤ total_limit
  pub refused : t.refused ≤ total_limit
  pub undone : t.undone ≤ total_limit

-- settling raises no total
pub settle_tally : (t : Tally) (call : Call) (v : Verdict) → Below t → call ≡ Settle → t ≡ tally_after t call v
unfolding tally_after
settle_tally t call v b p =
    subst (λ (k : Call). t ≡ tally_after t k v) (sym p)
    (λ i. record {
      granted = unraised t.granted b.granted i;
      refused = unraised t.refused b.refused i;
      undone = unraised t.undone b.undone i;
    })

-- an undo raises one
pub refused_tally : (t : Tally) (k : Refusal) (x : ℕ) → Below t → x ≡ saturating_add t.refused 1
    → record { granted = t.granted; refused = x; undone = t.undone } ≡ tally_after t Undo (Refused k)
unfolding tally_after
refused_tally t k x b p =
    λ i. record { granted = unraised t.granted b.granted i; refused = p i; undone = unraised t.undone b.undone i }

pub undone_tally : (t : Tally) (x : ℕ) → Below t → x ≡ saturating_add t.undone 1
    → record { granted = t.granted; refused = t.refused; undone = x } ≡ tally_after t Undo Granted
unfolding tally_after
undone_tally t x b p =
    λ i. record { granted = unraised t.granted b.granted i; refused = unraised t.refused b.refused i; undone = p i }
