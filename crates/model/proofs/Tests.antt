-- Laws of the tests: what a passed test says, and how to pass one.
-- (Cases is named so that it is checked before every proof: a changed definition is refused at the cases first.)
-- Assumes nothing.
use Prim.Native.Nat.{ℕ, zero, suc, ◌+◌, ◌<◌, ◌≤◌}
use native.Mathlib.Nat.{le_of_suc-le-suc, not-suc-le-zero, eq-or-lt_of_le}
use native.Mathlib.Omega.{arith}
use mathlib.Core.Path.{◌≡◌, refl, sym, subst, ◌∙◌, ap₂}
use mathlib.Core.Logic.{⊎_elim}
use mathlib.Core.Bool.{Bool, true, false, ◌&&◌, ◌||◌, false≢true, true≢false}
use mathlib.Core.Option.{Option, none, some, none-ne-some, some-injective}
use mathlib.Core.List.{List, [], ◌∷◌, ◌++◌}
use lib.ListN.{length, get_or, take, drop}
pub use Rattle.std.proofs.lemmas.Bool.{false_from_ne_true as not_true, cases_Bool as decide, or_cases}
pub use Rattle.std.proofs.Math.Nat.{eq-zero-or-pos as zero_or_pos}
use Rattle.model.specs.Sets.{Set, ◌⇒◌, bit, all_below, any, count_passing, concat_map, range, Each, nil, cons}
use Rattle.model.specs.Firing.{first}
use Rattle.model.specs.Cases

pub and_left : (a b : Bool) → a && b ≡ true → a ≡ true
and_left true b e = refl
and_left false b e = e

pub and_right : (a b : Bool) → a && b ≡ true → b ≡ true
and_right true b e = e
and_right false b e = absurd (false≢true e)

pub and_false : (a b : Bool) → a && b ≡ false → a ≡ true → b ≡ false
and_false true b e p = e
and_false false b e p = absurd (false≢true p)

pub and_both : {a b : Bool} → a ≡ true → b ≡ true → a && b ≡ true
and_both {a} {b} p q = rw (p, q)

pub or_left : {a : Bool} (b : Bool) → a ≡ true → a || b ≡ true
or_left b p = rw p

pub or_right : (a : Bool) {b : Bool} → b ≡ true → a || b ≡ true
or_right true p = refl
or_right false p = p

pub or_false_left : (a b : Bool) → a || b ≡ false → a ≡ false
or_false_left true b e = e
or_false_left false b e = refl

pub or_false_right : (a b : Bool) → a || b ≡ false → b ≡ false
or_false_right true b e = absurd (true≢false e)
or_false_right false b e = e

pub or_four : (a b c d : Bool) → a || b || c || d ≡ false → (a ≡ false) × (b ≡ false) × (c ≡ false) × (d ≡ false)
or_four false false false d e = (refl, refl, refl, e)
or_four false false true d e = absurd (true≢false e)
or_four false true c d e = absurd (true≢false e)
or_four true b c d e = absurd (true≢false e)

pub or_none : {a b : Bool} → a ≡ false → b ≡ false → a || b ≡ false
or_none p q = rw (p, q)

pub imp_use : (a b : Bool) → (a ⇒ b) ≡ true → a ≡ true → b ≡ true
imp_use true b e p = e
imp_use false b e p = absurd (false≢true p)

pub imp_make : (a : Bool) {b : Bool} → (a ≡ true → b ≡ true) → (a ⇒ b) ≡ true
imp_make true k = k refl
imp_make false k = refl

pub not_both : (b : Bool) → b ≡ true → b ≡ false → ⊥
not_both b p q = true≢false (sym p ∙ q)

pub below_at : (n : ℕ) (f : Set) → all_below n f ≡ true → (c : ℕ) → c < n → f c ≡ true
unfolding all_below
below_at zero f e c h = absurd (not-suc-le-zero h)
below_at (suc n) f e c h =
    ⊎_elim (λ p. subst (λ k. f k ≡ true) (sym p) (and_right (all_below n f) (f n) e)) (λ l. below_at n f (and_left (all_below n f) (f n) e) c l)
    (eq-or-lt_of_le (le_of_suc-le-suc h))

pub below_make : (n : ℕ) (f : Set) → ((c : ℕ) → c < n → f c ≡ true) → all_below n f ≡ true
unfolding all_below
below_make zero f k = refl
below_make (suc n) f k = and_both (below_make n f (λ c h. k c (omega arith))) (k n (omega arith))

-- six tests at once
pub six : (a b c d e f : Bool) → a && b && c && d && e && f ≡ true → (a ≡ true) × (b ≡ true) × (c ≡ true) × (d ≡ true) × (e ≡ true) × (f ≡ true)
six true true true true true f p = (refl, refl, refl, refl, refl, p)
six true true true true false f p = absurd (false≢true p)
six true true true false e f p = absurd (false≢true p)
six true true false d e f p = absurd (false≢true p)
six true false c d e f p = absurd (false≢true p)
six false b c d e f p = absurd (false≢true p)

pub six_make : {a b c d e f : Bool} → a ≡ true → b ≡ true → c ≡ true → d ≡ true → e ≡ true → f ≡ true → a && b && c && d && e && f ≡ true
six_make p q r s t u = and_both (and_both (and_both (and_both (and_both p q) r) s) t) u

module _ {ℓ κ} {A : Type ℓ} where
  module _ {P : A → Type κ} where
    pub each_append : {xs ys : List A} → Each P xs → Each P ys → Each P (xs ++ ys)
    each_append nil q = q
    each_append (cons p ps) q = cons p (each_append ps q)

    pub each_left : (xs ys : List A) → Each P (xs ++ ys) → Each P xs
    each_left [] ys q = nil
    each_left (x ∷ xs) ys (cons p ps) = cons p (each_left xs ys ps)

    pub each_right : (xs ys : List A) → Each P (xs ++ ys) → Each P ys
    each_right [] ys q = q
    each_right (x ∷ xs) ys (cons p ps) = each_right xs ys ps

    pub each_drop : (k : ℕ) {xs : List A} → Each P xs → Each P (drop k xs)
    each_drop zero all = all
    each_drop (suc k) nil = nil
    each_drop (suc k) (cons p ps) = each_drop k ps

    pub each_take : (k : ℕ) {xs : List A} → Each P xs → Each P (take k xs)
    each_take zero all = nil
    each_take (suc k) nil = nil
    each_take (suc k) (cons p ps) = cons p (each_take k ps)

    pub each_get_or : {xs : List A} → Each P xs → (i : ℕ) (d : A) → i < length xs → P (get_or xs i d)
    each_get_or nil i d h = absurd (not-suc-le-zero h)
    each_get_or (cons p ps) zero d h = p
    each_get_or (cons p ps) (suc i) d h = each_get_or ps i d (le_of_suc-le-suc h)

    -- the first that passes a test passes it and has the property
    pub first_each : (f : A → Bool) {xs : List A} → Each P xs → (y : A) → first f xs ≡ some y → (f y ≡ true) × P y
    first_each f nil y e = absurd (none-ne-some y e)
    first_each f (cons {x = x} {xs = xs} p ps) y e = go (f x) refl e (first_each f ps y)
      where
        go : (b : Bool) → f x ≡ b → ◌≡◌ {A = Option A} (elim b [ true ↦ some x | false ↦ first f xs ]) (some y)
            → (first f xs ≡ some y → (f y ≡ true) × P y) → (f y ≡ true) × P y
        go true q e k = subst (λ (z : A). (f z ≡ true) × P z) (some-injective x y e) (q, p)
        go false q e k = k e

-- where some element passes a test, one that passes it has the property
pub any_each {κ} : {A : Type 0} {P : A → Type κ} (f : A → Bool) {xs : List A} → Each P xs → any f xs ≡ true → (x : A) × (f x ≡ true) × P x
any_each f nil e = absurd (false≢true e)
any_each f (cons {x = x} {xs = xs} p ps) e = ⊎_elim (λ h. (x, h, p)) (λ h. any_each f ps h) (or_cases (f x) (any f xs) e)

-- the same from the test itself
pub any_false : {A : Type 0} (f : A → Bool) (xs : List A) → any f xs ≡ false → Each (λ (x : A). f x ≡ false) xs
any_false f [] e = nil
any_false f (x ∷ xs) e = cons (or_false_left (f x) (any f xs) e) (any_false f xs (or_false_right (f x) (any f xs) e))

pub each_zip {ℓ κ μ} : {A : Type ℓ} {P : A → Type κ} {Q : A → Type μ} {xs : List A} → Each P xs → Each Q xs → Each (λ (x : A). P x × Q x) xs
each_zip nil nil = nil
each_zip (cons p ps) (cons q qs) = cons (p, q) (each_zip ps qs)

pub each_map {ℓ κ μ} : {A : Type ℓ} {P : A → Type κ} {Q : A → Type μ} {xs : List A} → ((x : A) → P x → Q x) → Each P xs → Each Q xs
each_map k nil = nil
each_map k (cons {x = x} p ps) = cons (k x p) (each_map k ps)

pub any_more : {A : Type 0} (f g : A → Bool) (xs : List A) → ((x : A) → f x ≡ true → g x ≡ true) → any f xs ≡ true → any g xs ≡ true
any_more f g [] k e = e
any_more f g (x ∷ xs) k e =
    ⊎_elim (λ h. or_left (any g xs) (k x h)) (λ h. or_right (g x) (any_more f g xs k h)) (or_cases (f x) (any f xs) e)

pub none_any : {A : Type 0} (f : A → Bool) {xs : List A} → Each (λ (x : A). f x ≡ false) xs → any f xs ≡ false
none_any f nil = refl
none_any f (cons p ps) = or_none p (none_any f ps)

-- no more elements pass a test than there are, and none where each fails it
pub passing_bound {ℓ} : {A : Type ℓ} (f : A → Bool) (xs : List A) → count_passing f xs ≤ length xs
passing_bound f [] = omega arith
passing_bound f (x ∷ xs) = one_more (f x) (passing_bound f xs)
  where
    one_more : (b : Bool) {j k : ℕ} → j ≤ k → bit b + j ≤ suc k
    one_more true h = omega arith
    one_more false h = omega arith

pub none_passing {ℓ} : {A : Type ℓ} (f : A → Bool) {xs : List A} → Each (λ (x : A). f x ≡ false) xs → count_passing f xs ≡ 0
none_passing f nil = refl
none_passing f (cons p ps) = ap₂ (λ (b : Bool) (k : ℕ). bit b + k) p (none_passing f ps)

-- tests that agree have the same first element
pub first_same {ℓ} : {A : Type ℓ} (f g : A → Bool) {xs : List A} → Each (λ (x : A). f x ≡ g x) xs → first f xs ≡ first g xs
first_same f g nil = refl
first_same {A = A} f g (cons {x = x} p ps) = ap₂ (λ (b : Bool) (o : Option A). elim b as (λ _. Option A) [ true ↦ some x | false ↦ o ]) p (first_same f g ps)

pub first_any : {A : Type 0} (f : A → Bool) (xs : List A) (y : A) → first f xs ≡ some y → any f xs ≡ true
first_any f [] y e = absurd (none-ne-some y e)
first_any {A = A} f (x ∷ xs) y e = go (f x) e (first_any f xs y)
  where
    go : (b : Bool) → ◌≡◌ {A = Option A} (elim b [ true ↦ some x | false ↦ first f xs ]) (some y) → (first f xs ≡ some y → any f xs ≡ true) → b || any f xs ≡ true
    go true e k = refl
    go false e k = k e

-- where no element passes a test, each fails it
pub none_each {ℓ} : {A : Type ℓ} (f : A → Bool) (xs : List A) → first f xs ≡ none → Each (λ (x : A). f x ≡ false) xs
none_each f [] e = nil
none_each {A = A} f (x ∷ xs) e = go (f x) refl e (none_each f xs)
  where
    go : (b : Bool) → f x ≡ b → ◌≡◌ {A = Option A} (elim b [ true ↦ some x | false ↦ first f xs ]) none
        → (first f xs ≡ none → Each (λ (z : A). f z ≡ false) xs) → Each (λ (z : A). f z ≡ false) (x ∷ xs)
    go true q e k = absurd (none-ne-some x (sym e))
    go false q e k = cons q (k e)

pub each_concat_map {μ ν} : {A B : Type 0} {Q : A → Type μ} {P : B → Type ν} (f : A → List B) {xs : List A} → Each Q xs → ((x : A) → Q x → Each P (f x)) → Each P (concat_map f xs)
each_concat_map f nil k = nil
each_concat_map f (cons {x = x} q qs) k = each_append (k x q) (each_concat_map f qs k)

-- each number of range i n is below i + n
pub range_below : (i n : ℕ) → Each (λ c. c < i + n) (range i n)
range_below i zero = nil
range_below i (suc n) = cons {x = i} (omega arith) (each_map (λ c h. omega arith) (range_below (suc i) n))
