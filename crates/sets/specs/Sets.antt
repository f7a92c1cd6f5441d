-- Sets of numbers, and the words that hold them: bit j of a word says whether j is in the set.
-- `Set`, `singleton` and `number` are the model's; here is what a word adds to them. Nothing depends on a width.
-- Assumes nothing.
use Rattle.std.specs.Prelude.{ℕ, ◌*◌, ◌/◌, ◌%◌, ◌^◌, ◌<◌, ◌≡◌, Bool, true, false, not, ◌&&◌, ◌||◌, cond, eqb, ltb}
use Rattle.model.specs.Sets.{Set, singleton, from, number, all_below}

-- the set that a word holds: j where binary digit j is 1
unfoldable pub members : ℕ → Set
members m j = eqb (m / 2 ^ j % 2) 1

abbrev pub union : Set → Set → Set
union f g j = f j || g j

abbrev pub common : Set → Set → Set
common f g j = f j && g j

abbrev pub minus : Set → Set → Set
minus f g j = f j && not (g j)

abbrev pub insert : ℕ → Set → Set
insert c f = union f (singleton c)

abbrev pub remove : ℕ → Set → Set
remove c f = minus f (singleton c)

-- the members of one of the two alone
abbrev pub differing : Set → Set → Set
differing f g = union (minus f g) (minus g f)

-- a set with c in it where the test holds, and without it otherwise
abbrev pub assigned : Set → ℕ → Bool → Set
assigned f c test j = cond (eqb j c) test (f j)

-- the members of f below n
abbrev pub upto : ℕ → Set → Set
upto n f j = ltb j n && f j

-- byte i of the form that a set has in an image
abbrev pub byte_of : ℕ → Set → ℕ
byte_of i f = number 8 (from (8 * i) f)

-- each member of f below w is in g; f and g have no member below w in common
abbrev pub within : ℕ → Set → Set → Bool
within w f g = all_below w (λ j. not (f j) || g j)

abbrev pub apart : ℕ → Set → Set → Bool
apart w f g = all_below w (λ j. not (f j && g j))

-- c is the least member of f
pub record Least (f : Set) (c : ℕ) : Type 0 where
  pub hit : f c ≡ true
  pub gap : (j : ℕ) → j < c → f j ≡ false
