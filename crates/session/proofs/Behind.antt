-- The bytes of a line behind its first one.
-- Assumes nothing.
use Prim.Native.Nat.{ℕ, zero, suc, ◌+◌, ◌<◌}
use native.Mathlib.Nat.{not-suc-le-zero}
use native.Mathlib.Numerals.{add-one}
use native.Mathlib.Omega.{arith}
use mathlib.Core.Path.{◌≡◌, refl, ap, ◌∙◌}
use mathlib.Core.List.{List, [], ◌∷◌, ◌++◌}
use lib.ListN.{length, take, drop, get_or}
use lib.Seq.{take-suc, drop-append-le, length-take-le}

-- the bytes behind the first one, up to i
pub behind_first : (bytes : List ℕ) → 1 < length bytes → drop 1 (take 2 bytes) ≡ get_or bytes 1 0 ∷ []
behind_first [] p = absurd (not-suc-le-zero p)
behind_first (x ∷ []) p = absurd (omega arith)
behind_first (x ∷ y ∷ ys) p = refl

pub behind_more : (bytes : List ℕ) (i : ℕ) → 0 < i → i < length bytes → drop 1 (take (i + 1) bytes) ≡ drop 1 (take i bytes) ++ (get_or bytes i 0 ∷ [])
behind_more bytes i p q =
    ap (λ (k : ℕ). drop 1 (take k bytes)) (add-one i)
    ∙ ap (drop 1) (take-suc bytes i 0 q)
    ∙ drop-append-le 1 (take i bytes) (get_or bytes i 0 ∷ []) (omega (arith, length-take-le i bytes (omega arith)))

pub behind_some : (bytes : List ℕ) (i : ℕ) → 1 < i → 1 < length bytes → 0 < length (drop 1 (take i bytes))
behind_some [] i p q = absurd (not-suc-le-zero q)
behind_some (x ∷ []) i p q = absurd (omega arith)
behind_some (x ∷ y ∷ ys) zero p q = absurd (not-suc-le-zero p)
behind_some (x ∷ y ∷ ys) (suc zero) p q = absurd (omega arith)
behind_some (x ∷ y ∷ ys) (suc (suc i)) p q = omega arith

-- the first byte and those behind it
pub first_behind : (bytes : List ℕ) (i : ℕ) → 0 < i → 0 < length bytes → take i bytes ≡ get_or bytes 0 0 ∷ drop 1 (take i bytes)
first_behind [] i p q = absurd (not-suc-le-zero q)
first_behind (x ∷ xs) zero p q = absurd (not-suc-le-zero p)
first_behind (x ∷ xs) (suc i) p q = refl
