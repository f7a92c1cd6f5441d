-- Contexts without a count in an answer's text, and how many digits numbers have.
-- Assumes nothing.
use Prim.Native.Nat.{ℕ, zero, suc, ◌+◌, ◌-◌, ◌/◌, ◌<◌, ◌≤◌, min}
use native.Mathlib.Nat.{add-zero}
use native.Mathlib.Omega.{arith}
use mathlib.Core.Path.{◌≡◌, refl, sym, ap, ◌∙◌}
use mathlib.Core.Logic.{⊎_elim}
use mathlib.Core.Bool.{Bool, true, false}
use mathlib.Core.List.{List, ◌++◌, append-nil}
use lib.Dec.{ltb}
use lib.ListN.{length}
use borrow.Author.Tests.{ltb-true, ltb-false}
use Rattle.model.specs.Machine.{Counts}
use Rattle.model.proofs.Tests.{decide}
use Rattle.session.specs.Decimals.{decimal}
use Rattle.session.specs.Answers.{contexts_text}
use Rattle.session.proofs.Decimals.{decimal_small, decimal_not_empty, decimal_length, length_large}
use Rattle.session.proofs.Contexts.{idle_text, contexts_more}

module _ (counts : Counts) where
  -- contexts without a count behind the first m
  contexts_idle : (m k : ℕ) → ((c : ℕ) → m ≤ c → counts c ≡ 0) → contexts_text (m + k) counts ≡ contexts_text m counts
  contexts_idle m zero none = ap (λ (j : ℕ). contexts_text j counts) (add-zero m)
  contexts_idle m (suc k) none =
      let s : m + suc k ≡ m + k + 1 = omega arith in
      ap (λ (j : ℕ). contexts_text j counts) s
      ∙ contexts_more counts (m + k)
      ∙ ap (λ (l : List ℕ). contexts_text (m + k) counts ++ l) (idle_text (m + k) (counts (m + k)) (none (m + k) (omega arith)))
      ∙ append-nil (contexts_text (m + k) counts)
      ∙ contexts_idle m k none

  pub contexts_counted : (m n : ℕ) → ((c : ℕ) → m ≤ c → counts c ≡ 0) → contexts_text (min n m) counts ≡ contexts_text n counts
  contexts_counted m n none = go (ltb n m) refl
    where
      go : (b : Bool) → ltb n m ≡ b → contexts_text (min n m) counts ≡ contexts_text n counts
      go true e = let l = ltb-true n m e in let q : min n m ≡ n = omega arith in ap (λ (j : ℕ). contexts_text j counts) q
      go false e =
          let l = ltb-false n m e in
          let q : min n m ≡ m = omega arith in
          let s : m + (n - m) ≡ n = omega arith in
          ap (λ (j : ℕ). contexts_text j counts) q ∙ sym (contexts_idle m (n - m) none) ∙ ap (λ (j : ℕ). contexts_text j counts) s

-- a number of 8 bits has at most 3 digits
pub length_byte : (n : ℕ) → n < 256 → length (decimal n) ≤ 3
length_byte n h = decimal_length 2 n (omega arith)

-- a tenth of a number has no more digits than the number
pub length_tenth : (n : ℕ) → length (decimal (n / 10)) ≤ length (decimal n)
length_tenth n = ⊎_elim small large (decide (ltb n 10))
  where
    small : ltb n 10 ≡ true → length (decimal (n / 10)) ≤ length (decimal n)
    small t =
        let l = ltb-true n 10 t in
        let z : n / 10 ≡ 0 = omega arith in
        omega (arith, decimal_not_empty n, ap (λ (k : ℕ). length (decimal k)) z, ap (length {A = ℕ}) (decimal_small 0 (omega arith)))

    large : ltb n 10 ≡ false → length (decimal (n / 10)) ≤ length (decimal n)
    large t = omega (arith, length_large n (ltb-false n 10 t))
