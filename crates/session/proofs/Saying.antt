-- What a line says: the call whose text it is, with a number up to 255, and no call where there is none.
-- Assumes nothing.
use Prim.Native.Nat.{ℕ, zero, suc, ◌+◌, ◌<◌, ◌≤◌}
use native.Mathlib.Nat.{eq-or-lt_of_le}
use native.Mathlib.Omega.{arith}
use mathlib.Core.Path.{◌≡◌, refl, sym, ap, subst, ◌∙◌}
use mathlib.Core.Logic.{⊎_elim}
use mathlib.Core.Bool.{true, cond}
use mathlib.Core.Option.{none, some}
use mathlib.Core.Option as maybe
use Rattle.std.specs.Prelude.{Option, Some, None}
use mathlib.Core.List.{List, [], ◌∷◌, map}
use lib.Dec.{eqb}
use Rattle.model.specs.Sets.{Each, nil, cons, range}
use Rattle.model.specs.Firing.{first}
use Rattle.model.specs.declared.Call.{Call}
use Rattle.model.specs.declared.Call.TheVariants.{Activate, Deactivate, Undo, Settle}
use Rattle.model.proofs.Tests.{not_both, first_each, none_each, each_map, each_append, each_left, each_right, range_below}
use Rattle.model.proofs.Sizes.{equal_refl, equal_true}
use Rattle.session.specs.Decimals.{value}
use Rattle.session.specs.Calls.{plus_sign, minus_sign, letter_u, call_text, Askable, askable, is_text, said}
use Rattle.session.specs.Claims.{SaysItsText, SaysNoOther}
use Rattle.session.proofs.Decimals.{value_decimal}

-- the call back from its text
recall : List ℕ → Call
recall [] = Undo
recall (b ∷ bs) =
    cond (eqb b plus_sign) (Activate (value bs)) (cond (eqb b minus_sign) (Deactivate (value bs)) (cond (eqb b letter_u) Undo Settle))

recall_text : (k : Call) → recall (call_text k) ≡ k
unfolding recall call_text
recall_text (Activate c) = ap Activate (value_decimal c)
recall_text (Deactivate c) = ap Deactivate (value_decimal c)
recall_text Undo = refl
recall_text Settle = refl

-- no two calls have the same text
pub same_text : (j k : Call) → call_text j ≡ call_text k → j ≡ k
same_text j k e = sym (recall_text j) ∙ ap recall e ∙ recall_text k

module _ {P : Call → Type 0} where
  each_made : (f : ℕ → Call) {xs : List ℕ} → Each (λ c. P (f c)) xs → Each P (map f xs)
  each_made f nil = nil
  each_made f (cons p ps) = cons p (each_made f ps)

  made_each : (f : ℕ → Call) (i n c : ℕ) → Each P (map f (range i n)) → i ≤ c → c < i + n → P (f c)
  made_each f i zero c all h p = absurd (omega arith)
  made_each f i (suc n) c (cons q qs) h p =
      ⊎_elim (λ (e : i ≡ c). subst (λ (x : ℕ). P (f x)) e q) (λ (l : i < c). made_each f (suc i) n c qs l (omega arith)) (eq-or-lt_of_le h)

  -- what holds of each call of the list holds of each call that a line can ask for
  askable_each : Each P askable → (k : Call) → Askable k → P k
  unfolding askable
  askable_each (cons u (cons s all)) (Activate c) h =
      made_each Activate 0 256 c (each_left (map Activate (range 0 256)) (map Deactivate (range 0 256)) all) (omega arith) (omega arith)
  askable_each (cons u (cons s all)) (Deactivate c) h =
      made_each Deactivate 0 256 c (each_right (map Activate (range 0 256)) (map Deactivate (range 0 256)) all) (omega arith) (omega arith)
  askable_each (cons u (cons s all)) Undo h = u
  askable_each (cons u (cons s all)) Settle h = s

all_askable : Each Askable askable
unfolding askable
all_askable =
    let below : Each (λ c. c ≤ 255) (range 0 256) = each_map (λ c h. omega arith) (range_below 0 256) in
    cons tt (cons tt (each_append (each_made Activate below) (each_made Deactivate below)))

-- the line is the text of an askable call
pub says_call : (line : List ℕ) (k : Call) → line ≡ call_text k → Askable k → said line ≡ Some k
unfolding said
says_call line k e a = go (first (is_text line) askable) refl
  where
    here : is_text line k ≡ true
    here = ap (λ (l : List ℕ). is_text l k) e ∙ equal_refl (call_text k)

    go : (o : maybe.Option Call) → first (is_text line) askable ≡ o → ◌≡◌ {A = Option Call} (elim o [ none ↦ None | some j ↦ Some j ]) (Some k)
    go none f = absurd (not_both _ here (askable_each (none_each (is_text line) askable f) k a))
    go (some j) f =
        ap Some (same_text j k (sym (equal_true line (call_text j) (first_each (is_text line) all_askable j f).0) ∙ e))

-- the line is the text of no askable call
pub says_none : (line : List ℕ) → ((k : Call) → Askable k → line ≡ call_text k → ⊥) → said line ≡ None
unfolding said
says_none line no_call = go (first (is_text line) askable) refl
  where
    go : (o : maybe.Option Call) → first (is_text line) askable ≡ o → ◌≡◌ {A = Option Call} (elim o [ none ↦ None | some j ↦ Some j ]) None
    go none f = refl
    go (some j) f =
        let h = first_each (is_text line) all_askable j f in
        absurd (no_call j h.1 (equal_true line (call_text j) h.0))

-- what a line says is the text that it is
text_said : (line : List ℕ) (k : Call) → said line ≡ Some k → (line ≡ call_text k) × Askable k
unfolding said
text_said line k e = go (first (is_text line) askable) refl e
  where
    go : (o : maybe.Option Call) → first (is_text line) askable ≡ o → ◌≡◌ {A = Option Call} (elim o [ none ↦ None | some j ↦ Some j ]) (Some k)
        → (line ≡ call_text k) × Askable k
    go none f e = let z : ◌≡◌ {A = ℕ} 0 1 = cc in absurd (omega arith)
    go (some j) f e =
        let h = first_each (is_text line) all_askable j f in
        let q : j ≡ k = cc in
        subst (λ (x : Call). (line ≡ call_text x) × Askable x) q (equal_true line (call_text j) h.0, h.1)

pub says_its_text : SaysItsText
says_its_text line k = (text_said line k, λ h. says_call line k h.0 h.1)

pub says_no_other : SaysNoOther
says_no_other line =
    (λ e k a t. let q = says_call line k t a in let z : ◌≡◌ {A = ℕ} 0 1 = cc in omega arith, says_none line)
