-- Laws of the parts of an answer: their texts and how many bytes they have.
-- Assumes nothing.
use Prim.Native.Nat.{ℕ, ◌+◌, ◌%◌, ◌^◌, ◌<◌, ◌≤◌}
use native.Mathlib.Omega.{arith}
use mathlib.Core.Path.{◌≡◌, sym, ap, ◌∙◌}
use mathlib.Core.List.{List, [], ◌∷◌, ◌++◌, append_assoc, append-nil}
use lib.ListN.{length, length-append}
use Rattle.std.specs.Fmt as fmt
use Rattle.std.proofs.lemmas.Fmt.{decimal_by_steps}
use Rattle.session.specs.Decimals.{decimal}
use Rattle.session.specs.Answers.{context_text, contexts_text}
use Rattle.session.proofs.Contexts.{idle_text, active_text, no_contexts, contexts_more}
use Rattle.model.specs.Machine.{Counts}
use Rattle.session.proofs.Decimals.{decimal_small, decimal_large, decimal_length}

-- what std prints of a number is its text
pub printed_decimal : (n : ℕ) → n < 2 ^ 64 → fmt.decimal n ≡ decimal n
printed_decimal n h =
    decimal_by_steps (λ k text. text ≡ decimal k)
    (λ k l. sym (decimal_small k l))
    (λ k text l e. ap (λ (t : List ℕ). t ++ ((48 + k % 10) ∷ [])) e ∙ sym (decimal_large k l)) n h

-- a number of 64 bits has at most 20 digits, one of 8 bits at most 3
pub length_word : (n : ℕ) → n < 2 ^ 64 → length (decimal n) ≤ 20
length_word n h = decimal_length 19 n (omega arith)

-- a context behind a text
pub idle_behind : (text : List ℕ) (c count : ℕ) → count ≡ 0 → text ++ context_text c count ≡ text
idle_behind text c count e = ap (λ (l : List ℕ). text ++ l) (idle_text c count e) ∙ append-nil text

pub active_behind : (text : List ℕ) (c count : ℕ) → (count ≡ 0 → ⊥) → text ++ context_text c count ≡ (text ++ (32 ∷ decimal c)) ++ (58 ∷ decimal count)
active_behind text c count p =
    ap (λ (l : List ℕ). text ++ l) (active_text c count p) ∙ sym (append_assoc text (32 ∷ decimal c) (58 ∷ decimal count))

-- the contexts behind a text, and one context more
module _ (text : List ℕ) (counts : Counts) where
  pub none_behind : text ≡ text ++ contexts_text 0 counts
  none_behind = sym (ap (λ (l : List ℕ). text ++ l) (no_contexts counts) ∙ append-nil text)

  pub more_behind : (n : ℕ) (before after : List ℕ) → before ≡ text ++ contexts_text n counts → after ≡ before ++ context_text n (counts n)
      → after ≡ text ++ contexts_text (n + 1) counts
  more_behind n before after e q =
      q
      ∙ ap (λ (l : List ℕ). l ++ context_text n (counts n)) e
      ∙ append_assoc text (contexts_text n counts) (context_text n (counts n))
      ∙ sym (ap (λ (l : List ℕ). text ++ l) (contexts_more counts n))

-- a number below 100 and one of 8 bits behind a text, each with its sign
pub length_numbers : (before middle after : List ℕ) (c count s t : ℕ) → c < 100 → count < 256 → middle ≡ before ++ (s ∷ decimal c)
    → after ≡ middle ++ (t ∷ decimal count) → length after ≤ length before + 7
length_numbers before middle after c count s t h k e q =
    omega (
      arith,
      ap length e,
      ap length q,
      length-append before (s ∷ decimal c),
      length-append middle (t ∷ decimal count),
      decimal_length 1 c (omega arith),
      decimal_length 2 count (omega arith),
    )
