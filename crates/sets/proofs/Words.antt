-- The sets in words, each law as the check meets it: over the numbers that the words are, at any width.
-- Assumes nothing.
use Prim.Native.Nat.{ℕ, ◌-◌, ◌^◌, ◌%◌, ◌*◌, ◌<◌}
use mathlib.Core.Path.{◌≡◌}
use lib.Bits.{bit_and, bit_or}
use lib.Dec.{eqb}
use Rattle.model.specs.Sets.{singleton, number}
use Rattle.sets.specs.Sets.{members, union, common, minus, insert, remove, within, apart}
use Rattle.sets.proofs.Laws.{own, or_holds, and_holds, minus_holds, within_holds, apart_holds, single_word}

module _ (w a b : ℕ) (p : a < 2 ^ w) (q : b < 2 ^ w) where
  pub union_word : bit_or a b ≡ number w (union (members a) (members b))
  union_word = or_holds w (members a) (members b) (own w a p) (own w b q)

  pub common_word : bit_and a b ≡ number w (common (members a) (members b))
  common_word = and_holds w (members a) (members b) (own w a p) (own w b q)

  pub minus_word : bit_and a (2 ^ w - 1 - b) ≡ number w (minus (members a) (members b))
  minus_word = minus_holds w (members a) (members b) (own w a p) (own w b q)

  pub within_word : eqb (bit_and a b) a ≡ within w (members a) (members b)
  within_word = within_holds w (members a) (members b) (own w a p) (own w b q)

  pub apart_word : eqb (bit_and a b) 0 ≡ apart w (members a) (members b)
  apart_word = apart_holds w (members a) (members b) (own w a p) (own w b q)

module _ (w a c s : ℕ) (p : a < 2 ^ w) (q : s ≡ number w (singleton c)) where
  pub with_word : bit_or a s ≡ number w (insert c (members a))
  with_word = or_holds w (members a) (singleton c) (own w a p) q

  pub without_word : bit_and a (2 ^ w - 1 - s) ≡ number w (remove c (members a))
  without_word = minus_holds w (members a) (singleton c) (own w a p) q

-- at 64 digits, where the check has computed the powers
pub single_64 : (c : ℕ) → c < 64 → 1 * 2 ^ c % 18446744073709551616 ≡ number 64 (singleton c)
single_64 = single_word 64

pub minus_64 : (a b : ℕ) → a < 2 ^ 64 → b < 2 ^ 64 → bit_and a (18446744073709551615 - b) ≡ number 64 (minus (members a) (members b))
minus_64 = minus_word 64

pub without_64 : (a c s : ℕ) → a < 2 ^ 64 → s ≡ number 64 (singleton c) → bit_and a (18446744073709551615 - s) ≡ number 64 (remove c (members a))
without_64 = without_word 64
