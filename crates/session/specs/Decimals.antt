-- Numbers in decimal, as lists of ASCII codes.
-- Assumes nothing.
use Rattle.std.specs.Prelude.{ℕ, zero, suc, ◌+◌, ◌-◌, ◌*◌, ◌/◌, ◌%◌, ◌<◌, ◌≤◌, ◌≡◌, true, false, List, [], ◌∷◌, ◌++◌, ltb, length, get_or, Option, Some}
use Prim.Native.Char.{code}
use Rattle.model.specs.Sets.{Each}

-- the codes of 0 and of the digit d
abbrev pub zero_sign : ℕ
zero_sign = code "0"

abbrev pub digit : ℕ → ℕ
digit d = zero_sign + d

-- n in decimal, the first digit first, in k steps: one for each digit
unfoldable pub spelled : ℕ → ℕ → List ℕ
spelled zero n = []
spelled (suc k) n = elim (ltb n 10) [ true ↦ digit n ∷ [] | false ↦ spelled k (n / 10) ++ (digit (n % 10) ∷ []) ]

-- n in decimal: a number has no more digits than n + 1
unfoldable pub decimal : ℕ → List ℕ
decimal n = spelled (suc n) n

-- What the two definitions above come to is said once more without them: a text in decimal is one or more digits that do not begin
-- with a zero unless it is the only one, and each number has one such text (Claims).
abbrev pub IsDigit : ℕ → Type 0
IsDigit b = (code "0" ≤ b) × (b ≤ code "9")

pub record Numeral (text : List ℕ) : Type 0 where
  pub digits : Each IsDigit text
  pub not_empty : 0 < length text
  pub no_leading_zero : 1 < length text → get_or text 0 0 ≡ zero_sign → ⊥

-- the number that digits stand for, where those before them stand for a
abbrev pub value_from : ℕ → List ℕ → ℕ
value_from a [] = a
value_from a (b ∷ bs) = value_from (a * 10 + (b - zero_sign)) bs

abbrev pub value : List ℕ → ℕ
value = value_from 0

-- r is the number below 256 whose decimal text this is, and nothing where it is none's
pub record Reads (text : List ℕ) (r : Option ℕ) : Type 0 where
  pub found : (c : ℕ) → c < 256 → text ≡ decimal c → r ≡ Some c
  pub right : (c : ℕ) → r ≡ Some c → (c < 256) × (text ≡ decimal c)

-- r is what the text of c and one byte more read as
abbrev pub Extends : (c b : ℕ) → Option ℕ → Type 0
Extends c b r = Reads (decimal c ++ (b ∷ [])) r
