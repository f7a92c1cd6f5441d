-- The words that every later definition uses: sets of numbers, tests over a range or a list, lists.
-- Assumes nothing.
use Rattle.std.specs.Prelude.{ℕ, zero, suc, ◌+◌, ◌*◌, ◌<◌, Bool, true, false, ◌&&◌, ◌||◌, not, List, [], ◌∷◌, eqb}
use Rattle.std.specs.List.{list_any, list_all, flat_map}

-- A set of places of one kind is named by their contexts. It is a test, so that nothing here depends on a width.
abbrev pub Set : Type 0
Set = ℕ → Bool

-- no context, and c alone
abbrev pub empty_set : Set
empty_set x = false

abbrev pub singleton : ℕ → Set
singleton c x = eqb x c

-- implication of tests
infixr 25 ◌⇒◌
abbrev pub ◌⇒◌ : Bool → Bool → Bool
a ⇒ b = not a || b

-- 1 where the test holds
abbrev pub bit : Bool → ℕ
bit true = 1
bit false = 0

-- the members of f from k on, counted from there
abbrev pub from : ℕ → Set → Set
from k f j = f (k + j)

-- a set as a number of w binary digits: digit j, counted from the lowest, is 1 where j is in the set
unfoldable pub number : ℕ → Set → ℕ
number zero f = 0
number (suc w) f = bit (f 0) + 2 * number w (λ j. f (suc j))

-- each number below n passes the test
unfoldable pub all_below : ℕ → Set → Bool
all_below zero f = true
all_below (suc n) f = all_below n f && f n

-- some element of the list passes the test, and each does
abbrev pub any : {A : Type 0} → (A → Bool) → List A → Bool
any = list_any

abbrev pub all : {A : Type 0} → (A → Bool) → List A → Bool
all = list_all

module _ {ℓ} {A : Type ℓ} where
  -- how many elements pass the test
  abbrev pub count_passing : (A → Bool) → List A → ℕ
  count_passing f [] = 0
  count_passing f (x ∷ xs) = bit (f x) + count_passing f xs

  -- the list without its last element
  abbrev pub drop_last : List A → List A
  drop_last [] = []
  drop_last (x ∷ []) = []
  drop_last (x ∷ y ∷ ys) = x ∷ drop_last (y ∷ ys)

  module _ {κ} where
    -- each element of the list has the property
    pub data Each (P : A → Type κ) : List A → Type (ℓ ⊔ κ) where
      nil : Each P []
      cons : {x : A} {xs : List A} → P x → Each P xs → Each P (x ∷ xs)

-- the lists f x, for each x of the list, one behind the other
abbrev pub concat_map : {A B : Type 0} → (A → List B) → List A → List B
concat_map = flat_map

-- the numbers from i on, n of them
abbrev pub range : ℕ → ℕ → List ℕ
range i zero = []
range i (suc n) = i ∷ range (suc i) n

-- the sum of the list's numbers
abbrev pub sum : List ℕ → ℕ
sum [] = 0
sum (x ∷ xs) = x + sum xs

-- the two lists are the same
abbrev pub equal_lists : List ℕ → List ℕ → Bool
equal_lists [] [] = true
equal_lists [] (y ∷ ys) = false
equal_lists (x ∷ xs) [] = false
equal_lists (x ∷ xs) (y ∷ ys) = eqb x y && equal_lists xs ys

-- a number of one byte
abbrev pub IsByte : ℕ → Type 0
IsByte x = x < 256
