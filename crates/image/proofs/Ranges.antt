-- Ranges, entry by entry, and lists of lists, one behind the other.
-- Assumes nothing.
use Prim.Native.Nat.{ℕ, zero, suc, ◌+◌, ◌*◌, ◌<◌}
use native.Mathlib.Nat.{add-zero, zero-add}
use native.Mathlib.Numerals.{add-one}
use native.Mathlib.Omega.{arith}
use mathlib.Core.Path.{◌≡◌, refl, sym, ap, ap₂, ◌∙◌}
use mathlib.Core.List.{List, [], ◌∷◌, ◌++◌, append-nil}
use lib.ListN.{length, get_or, take, drop, length-append}
use lib.Seq.{drop-cons, take-suc}
use Rattle.std.proofs.lemmas.List.Concat.{flat_map-append}
use Rattle.model.specs.Sets.{concat_map, range}
use Rattle.model.specs.declared.Relation.{Relation}
use Rattle.model.specs.Transitions.{Transition, extra, context_transitions, extra_transitions, transitions_of}
use Rattle.model.specs.Image.{record_bytes}
use Rattle.model.proofs.Sizes.{length_concat_map, length_range}

pub concat_map_append : {A B : Type 0} (f : A → List B) (xs ys : List A) → concat_map f (xs ++ ys) ≡ concat_map f xs ++ concat_map f ys
concat_map_append f xs ys = flat_map-append f xs ys

-- lists of lists, one behind the other
concat_map_flat : {A B C : Type 0} (f : B → List C) (g : A → List B) (xs : List A) → concat_map f (concat_map g xs) ≡ concat_map (λ (x : A). concat_map f (g x)) xs
concat_map_flat f g [] = refl
concat_map_flat {C = C} f g (x ∷ xs) =
    concat_map_append f (g x) (concat_map g xs) ∙ ap (λ (l : List C). concat_map f (g x) ++ l) (concat_map_flat f g xs)

concat_take : {A : Type 0} (f : A → List ℕ) (xs : List A) (i : ℕ) (d : A) → i < length xs
    → concat_map f (take (i + 1) xs) ≡ concat_map f (take i xs) ++ f (get_or xs i d)
concat_take f xs i d h =
    ap (λ (n : ℕ). concat_map f (take n xs)) (add-one i)
    ∙ ap (concat_map f) (take-suc xs i d h)
    ∙ concat_map_append f (take i xs) (get_or xs i d ∷ [])
    ∙ ap (λ (s : List ℕ). concat_map f (take i xs) ++ s) (append-nil (f (get_or xs i d)))

-- number c of a range, and what is left of the range from c on
range_at : (j n c d : ℕ) → c < n → get_or (range j n) c d ≡ j + c
range_at j zero c d h = absurd (omega arith)
range_at j (suc n) zero d h = sym (add-zero j)
range_at j (suc n) (suc c) d h = let e : suc j + c ≡ j + suc c = omega arith in range_at (suc j) n c d (omega arith) ∙ e

pub range_entry : (n c : ℕ) → c < n → get_or (range 0 n) c 0 ≡ c
range_entry n c h = range_at 0 n c 0 h ∙ zero-add c

pub range_drop : (n c : ℕ) → c < n → drop c (range 0 n) ≡ c ∷ drop (c + 1) (range 0 n)
range_drop n c h =
    drop-cons (range 0 n) c 0 (omega (arith, length_range 0 n))
    ∙ ap₂ (λ (x k : ℕ). x ∷ drop k (range 0 n)) (range_entry n c h) (sym (add-one c))

-- the record of a list's only transition
pub alone_bytes : (one : Transition) {ts : List Transition} → ts ≡ one ∷ [] → record_bytes 6 one ≡ concat_map (record_bytes 6) ts
alone_bytes one e = sym (ap (concat_map (record_bytes 6)) e ∙ append-nil (record_bytes 6 one))

-- two transitions for each context, and the extra ones
pub length_composed : (rels : List Relation) (n : ℕ) → length (transitions_of n rels) ≡ 2 * n + length (extra_transitions rels)
unfolding transitions_of extra_transitions context_transitions
length_composed rels n =
    length-append (concat_map (context_transitions rels) (range 0 n)) (concat_map (extra rels) rels)
    ∙ omega (arith, length_concat_map (context_transitions rels) 2 (λ _. refl) (range 0 n), length_range 0 n)
