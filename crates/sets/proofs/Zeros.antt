-- The lowest member of a set, by the zeros below it.
-- Assumes nothing.
use Prim.Native.Nat.{ℕ, zero, suc, ◌+◌, ◌-◌, ◌/◌, ◌%◌, ◌^◌, ◌≤◌, ◌<◌}
use mathlib.Core.Bool.{true, false}
use mathlib.Core.Path.{◌≡◌, refl, sym, ap, ◌∙◌}
use native.Mathlib.Nat.{le_of_suc-le-suc, not-suc-le-zero}
use native.Mathlib.Omega.{arith}
use lib.Dec.{eqb}
use lib.Count.{count_trailing_zeros, under}
use lib.Pow.{shr-shr}
use Rattle.model.specs.Sets.{Set}
use Rattle.sets.specs.Sets.{members}
use Rattle.sets.proofs.Laws.{members_zero, members_suc}

-- r is the least member of f that is at least c, among the numbers below w; w or more where there is none
pub record LeastFrom (w : ℕ) (f : Set) (c r : ℕ) : Type 0 where
  pub from_c : c ≤ r
  pub gap : (j : ℕ) → c ≤ j → j < r → f j ≡ false
  pub hit : r < w → f r ≡ true

pub zeros_gap : (k q j : ℕ) → j < count_trailing_zeros k q → members q j ≡ false
unfolding count_trailing_zeros
zeros_gap zero q j h = absurd (not-suc-le-zero h)
zeros_gap (suc k) q j h = go (q % 2) refl (zeros_gap k (q / 2)) j h
  where
    go : (d : ℕ) → q % 2 ≡ d → ((i : ℕ) → i < count_trailing_zeros k (q / 2) → members (q / 2) i ≡ false)
        → (j : ℕ) → j < under d (count_trailing_zeros k (q / 2)) → members q j ≡ false
    go zero e rest zero h = members_zero q ∙ ap (λ (x : ℕ). eqb x 1) e
    go zero e rest (suc j) h = members_suc q j ∙ rest j (le_of_suc-le-suc h)
    go (suc d) e rest j h = absurd (not-suc-le-zero h)

pub zeros_hit : (k q : ℕ) → count_trailing_zeros k q < k → members q (count_trailing_zeros k q) ≡ true
unfolding count_trailing_zeros
zeros_hit zero q h = absurd (not-suc-le-zero h)
zeros_hit (suc k) q h = go (q % 2) refl (zeros_hit k (q / 2)) h
  where
    go : (d : ℕ) → q % 2 ≡ d → (count_trailing_zeros k (q / 2) < k → members (q / 2) (count_trailing_zeros k (q / 2)) ≡ true)
        → under d (count_trailing_zeros k (q / 2)) < suc k → members q (under d (count_trailing_zeros k (q / 2))) ≡ true
    go zero e rest h = members_suc q (count_trailing_zeros k (q / 2)) ∙ rest (le_of_suc-le-suc h)
    go (suc zero) e rest h = members_zero q ∙ ap (λ (x : ℕ). eqb x 1) e
    go (suc (suc d)) e rest h = absurd (omega arith)

pub members_shift : (m c j : ℕ) → members m (c + j) ≡ members (m / 2 ^ c) j
unfolding members
members_shift m c j = ap (λ (x : ℕ). eqb (x % 2) 1) (sym (shr-shr m c j))

-- for any width: what a count of trailing zeros finds in m / 2 ^ c
pub least : (w m c : ℕ) → LeastFrom (c + w) (members m) c (c + count_trailing_zeros w (m / 2 ^ c))
least w m c =
    let t = count_trailing_zeros w (m / 2 ^ c) in
    record {
      from_c = omega arith;
      gap = λ j a b.
          let e : c + (j - c) ≡ j = omega arith in
          ap (members m) (sym e) ∙ members_shift m c (j - c) ∙ zeros_gap w (m / 2 ^ c) (j - c) (omega arith);
      hit = λ l. members_shift m c t ∙ zeros_hit w (m / 2 ^ c) (omega arith);
    }

-- among fewer numbers it is the least too
pub least_among : (v : ℕ) {w : ℕ} {f : Set} {c r : ℕ} → v ≤ w → LeastFrom w f c r → LeastFrom v f c r
least_among v h l = record { from_c = l.from_c; gap = l.gap; hit = λ k. l.hit (omega arith) }
