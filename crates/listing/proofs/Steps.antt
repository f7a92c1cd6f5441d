-- The hash of a list, part by part.
-- Assumes nothing.
use Prim.Native.Nat.{ℕ, suc, ◌+◌, ◌-◌, ◌/◌, ◌%◌, ◌<◌}
use mathlib.Core.Path.{◌≡◌, refl, sym, ap}
use mathlib.Core.List.{List, [], ◌∷◌, map}
use native.Mathlib.Omega.{arith}
use Rattle.std.specs.List.{fold}
use Rattle.model.specs.Sets.{concat_map}
use Rattle.model.specs.Image.{bytes, relation_from}
use Rattle.listing.specs.Hash.{folded, hashed}
use Rattle.listing.specs.Loads.{triple}

-- the bytes of a number, and those behind its lowest
pub hashed_low : (h x k i : ℕ) → i < k → hashed (folded h (x % 256)) (bytes (k - (i + 1)) (x / 256)) ≡ hashed h (bytes (k - i) x)
hashed_low h x k i l =
    let e : k - i ≡ suc (k - (i + 1)) = omega arith in
    sym (ap (λ (j : ℕ). hashed h (bytes j x)) e)

-- relations, three bytes each
pub hashed_triples : (h : ℕ) (rs : List (List ℕ)) → fold (λ s xs. hashed s (triple (relation_from xs))) h rs ≡ hashed h (concat_map triple (map relation_from rs))
hashed_triples h [] = refl
hashed_triples h (r ∷ rs) = hashed_triples (hashed h (triple (relation_from r))) rs
