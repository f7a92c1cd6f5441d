-- Sets of several words each, in one list: the laws of Rows at a word and a bit of it. For any width and number of words.
-- Assumes nothing.
use Prim.Native.Nat.{ℕ, zero, zero-le, ◌<◌, ◌+◌, ◌*◌, ◌/◌, ◌%◌}
use mathlib.Core.Bool.{Bool, true, ◌&&◌, ◌||◌}
use mathlib.Core.Path.{◌≡◌, sym, ap, ap₂, ◌∙◌, subst, subst₂}
use mathlib.Core.List.{List}
use native.Mathlib.Nat.{div-lt_iff_lt-mul, div-add-mod, div-add-mod', mod-lt, mul_comm, lt_of_le_of_lt}
use lib.Dec.{eqb}
use lib.Arith.{digits_div, digits_mod, digits_lt}
use lib.ListN.{get_or, set, replicate}
use borrow.Author.Tests.{eq-eqb, eqb-true}
use Rattle.model.specs.Sets.{Set, empty_set, from, number, all_below}
use Rattle.model.proofs.Tests.{and_left, and_right, and_both, below_at, below_make}
use Rattle.sets.specs.Sets.{members, insert}
use Rattle.sets.proofs.Laws.{same_bool}
use Rattle.sets.proofs.Rows.{mark, Rows, rows_none, rows_same, rows_mark}

-- sets that take p words of k digits each, one after the other: word y is word y % p of set y / p
abbrev pub wide : ℕ → ℕ → (ℕ → Set) → ℕ → Set
wide k p F y = from (k * (y % p)) (F (y / p))

-- a number in two digits
module _ (k q : ℕ) {j : ℕ} (h : j < k) where
  two_div : (k * q + j) / k ≡ q
  two_div = ap (λ (x : ℕ). (x + j) / k) (mul_comm k q) ∙ digits_div q h

  two_mod : (k * q + j) % k ≡ j
  two_mod = ap (λ (x : ℕ). (x + j) % k) (mul_comm k q) ∙ digits_mod q h

module _ (k p : ℕ) where
  -- c's bit in a's words
  place : (a c y j : ℕ) → j < k → c < p * k → zero < p → (eqb y (a * p + c / k) && eqb j (c % k)) ≡ (eqb (y / p) a && eqb (k * (y % p) + j) c)
  place a c y j h b pp = same_bool _ _ there back
    where
      top : c / k < p
      top = (div-lt_iff_lt-mul (lt_of_le_of_lt zero-le h)).1 b

      there : (eqb y (a * p + c / k) && eqb j (c % k)) ≡ true → (eqb (y / p) a && eqb (k * (y % p) + j) c) ≡ true
      there e =
          let ey : y ≡ a * p + c / k = eqb-true y (a * p + c / k) (and_left (eqb y (a * p + c / k)) (eqb j (c % k)) e) in
          let ej : j ≡ c % k = eqb-true j (c % k) (and_right (eqb y (a * p + c / k)) (eqb j (c % k)) e) in
          and_both
          (eq-eqb (y / p) a (ap (λ (x : ℕ). x / p) ey ∙ digits_div a top))
          (eq-eqb (k * (y % p) + j) c (ap₂ (λ (x z : ℕ). k * x + z) (ap (λ (x : ℕ). x % p) ey ∙ digits_mod a top) ej ∙ div-add-mod c k))

      back : (eqb (y / p) a && eqb (k * (y % p) + j) c) ≡ true → (eqb y (a * p + c / k) && eqb j (c % k)) ≡ true
      back e =
          let ea : y / p ≡ a = eqb-true (y / p) a (and_left (eqb (y / p) a) (eqb (k * (y % p) + j) c) e) in
          let ec : k * (y % p) + j ≡ c = eqb-true (k * (y % p) + j) c (and_right (eqb (y / p) a) (eqb (k * (y % p) + j) c) e) in
          and_both
          (eq-eqb y (a * p + c / k) (sym (div-add-mod' y p) ∙ ap₂ (λ (x z : ℕ). x * p + z) ea (sym (two_div k (y % p) h) ∙ ap (λ (x : ℕ). x / k) ec)))
          (eq-eqb j (c % k) (sym (two_mod k (y % p) h) ∙ ap (λ (x : ℕ). x % k) ec))

  module _ (n : ℕ) (pp : zero < p) where
    pub wide_none : Rows k (n * p) (replicate (n * p) 0) (wide k p (λ x. empty_set))
    wide_none = rows_none k (n * p)

    pub wide_mark : {out : List ℕ} (F : ℕ → Set) → Rows k (n * p) out (wide k p F) → (a c v : ℕ) → a < n → c < p * k → zero < k
        → v ≡ number k (insert (c % k) (members (get_or out (a * p + c / k) 0))) → Rows k (n * p) (set out (a * p + c / k) v) (wide k p (mark a c F))
    wide_mark F has a c v h b kk e =
        rows_same k (n * p) _ _
        (rows_mark k (n * p) (wide k p F) has (a * p + c / k) (c % k) v (digits_lt h ((div-lt_iff_lt-mul kk).1 b)) e)
        (λ y l j i. ap (λ (t : Bool). F (y / p) (k * (y % p) + j) || t) (place a c y j i b pp))

  -- a test over all of a set's words, word by word
  pub below_words : (n : ℕ) (P : ℕ → Bool) → zero < k → all_below n (λ q. all_below k (λ j. P (k * q + j))) ≡ all_below (k * n) P
  below_words n P kk =
      same_bool (all_below n (λ q. all_below k (λ j. P (k * q + j)))) (all_below (k * n) P)
      (λ e. below_make (k * n) P
      (λ c h. subst (λ (x : ℕ). P x ≡ true) (div-add-mod c k)
      (below_at k (λ j. P (k * (c / k) + j)) (below_at n (λ q. all_below k (λ j. P (k * q + j))) e (c / k) ((div-lt_iff_lt-mul kk).1 (subst (λ (x : ℕ). c < x) (mul_comm k n) h))) (c % k) (mod-lt c kk))))
      (λ e. below_make n _
      (λ q h. below_make k _ (λ j l. below_at (k * n) P e (k * q + j) (subst₂ (λ (x y : ℕ). x + j < y) (mul_comm q k) (mul_comm n k) (digits_lt h l)))))
