-- The lengths of what an image is made of, and that all of it is bytes.
-- Assumes nothing.
use Prim.Native.Nat.{ℕ, zero, suc, ◌+◌, ◌*◌, ◌≤◌}
use native.Mathlib.Nat.{mul-zero, mul-suc}
use native.Mathlib.Omega.{arith}
use mathlib.Core.Path.{◌≡◌, refl, sym, ap, ap₂, ◌∙◌}
use mathlib.Core.Bool.{Bool, true, false, false≢true, cond}
use mathlib.Core.Option.{some, none-ne-some, some-injective}
use mathlib.Core.List.{List, [], ◌∷◌, ◌++◌, map}
use lib.Dec.{eqb}
use borrow.Author.Tests.{eqb-true, eq-eqb}
use lib.ListN.{length, take, drop, get_elem?, length-append, length-map}
use lib.Seq.{take_at, drop-append-add}
use Rattle.model.specs.Sets.{Set, from, number, singleton, empty_set, equal_lists, concat_map, range, Each, nil, cons, IsByte}
use Rattle.model.specs.Relations.{Net, size, relation_count, misfit, causes, implies, requires, suggests}
use Rattle.model.specs.declared.Relation.{Relation}
use Rattle.model.specs.Transitions.{Transition, drop_of, decline_of, forced, context_transitions, extra, extra_transitions, transitions_of, transitions}
use Rattle.model.specs.Image.{Format, Trailer, set_bytes, record_bytes, relation_fields, relation_bytes, trailer_fields, trailer_bytes, trailer_size, relation_size, relations_size, record_size, records_size, records, image, transition_count}
use Rattle.model.specs.Claims.{Valid}
use Rattle.model.proofs.Tests.{and_left, and_right, and_both, any_false, each_append, each_concat_map}
use Rattle.model.proofs.Fields.{length_bytes, write_are}
use Rattle.model.proofs.Masks.{number_below}
use Rattle.model.proofs.Ready.{sound}

pub equal_refl : (xs : List ℕ) → equal_lists xs xs ≡ true
equal_refl [] = refl
equal_refl (x ∷ xs) = and_both (eq-eqb x x refl) (equal_refl xs)

pub equal_true : (xs ys : List ℕ) → equal_lists xs ys ≡ true → xs ≡ ys
equal_true [] [] e = refl
equal_true [] (y ∷ ys) e = absurd (false≢true e)
equal_true (x ∷ xs) [] e = absurd (false≢true e)
equal_true (x ∷ xs) (y ∷ ys) e =
    ap₂ (λ (a : ℕ) (l : List ℕ). a ∷ l) (eqb-true x y (and_left (eqb x y) (equal_lists xs ys) e)) (equal_true xs ys (and_right (eqb x y) (equal_lists xs ys) e))

-- lists of one length each, one behind the other
pub length_concat_map : {A B : Type 0} (f : A → List B) (k : ℕ) → ((x : A) → length (f x) ≡ k) → (xs : List A) → length (concat_map f xs) ≡ k * length xs
length_concat_map f k h [] = sym (mul-zero k)
length_concat_map f k h (x ∷ xs) =
    let p = h x in
    let q = length_concat_map f k h xs in
    let s = mul-suc k (length xs) in
    length-append (f x) (concat_map f xs) ∙ omega arith

-- and the i-th of them
pub concat_map_at : {A B : Type 0} (f : A → List B) (k : ℕ) → ((x : A) → length (f x) ≡ k) → (xs : List A) (i : ℕ) (x : A)
    → get_elem? xs i ≡ some x → take k (drop (k * i) (concat_map f xs)) ≡ f x
concat_map_at f k h [] i x e = absurd (none-ne-some x e)
concat_map_at f k h (y ∷ ys) zero x e =
    ap (λ (j : ℕ). take k (drop j (f y ++ concat_map f ys))) (mul-zero k)
    ∙ take_at (f y) (concat_map f ys) k (h y)
    ∙ ap f (some-injective y x e)
concat_map_at f k h (y ∷ ys) (suc i) x e =
    let p : k * suc i ≡ length (f y) + k * i = let q = mul-suc k i in let l = h y in omega arith in
    ap (λ (j : ℕ). take k (drop j (f y ++ concat_map f ys))) p
    ∙ ap (take k) (drop-append-add (f y) (concat_map f ys) (k * i))
    ∙ concat_map_at f k h ys i x e

pub length_range : (i n : ℕ) → length (range i n) ≡ n
length_range i zero = refl
length_range i (suc n) = ap suc (length_range (suc i) n)

pub length_set_bytes : (w : ℕ) (f : Set) → length (set_bytes w f) ≡ w
unfolding set_bytes
length_set_bytes w f = length-map (range 0 w) _ ∙ length_range 0 w

pub length_record : (w : ℕ) (t : Transition) → length (record_bytes w t) ≡ 1 + 8 * w
unfolding record_bytes
length_record w t = simp (length-append, length_set_bytes) (omega arith)

length_extra : (rels : List Relation) (r : Relation) → length (extra rels r) ≤ 1
unfolding extra
length_extra rels r =
    go (drop_of r.b) (forced rels r.a (singleton r.b) (singleton r.b)) (forced rels r.a (singleton r.b) empty_set) (decline_of r.b)
    (eqb r.kind causes) (eqb r.kind implies) (eqb r.kind requires) (eqb r.kind suggests)
  where
    go : (w x y z : Transition) (p q s u : Bool) → length (cond p (w ∷ []) (cond q (x ∷ []) (cond s (y ∷ []) (cond u (z ∷ []) [])))) ≤ 1
    go w x y z true q s u = omega arith
    go w x y z false true s u = omega arith
    go w x y z false false true u = omega arith
    go w x y z false false false true = omega arith
    go w x y z false false false false = omega arith

-- no more than one for each relation
pub length_extras : (rels rs : List Relation) → length (concat_map (extra rels) rs) ≤ length rs
length_extras rels [] = omega arith
length_extras rels (r ∷ rs) =
    let p = length_extra rels r in
    let q = length_extras rels rs in
    let s = length-append (extra rels r) (concat_map (extra rels) rs) in
    omega arith

pub length_transitions : (net : Net) → transition_count net ≤ 2 * size net + relation_count net
unfolding transitions_of context_transitions extra_transitions
length_transitions net =
    let p = length-append (concat_map (context_transitions net.rels) (range 0 (size net))) (extra_transitions net.rels) in
    let q = length_extras net.rels net.rels in
    let s = length_concat_map (context_transitions net.rels) 2 (λ _. refl) (range 0 (size net)) in
    let u = length_range 0 (size net) in
    omega arith

module _ (f : Format) where
  pub length_relation : (r : Relation) → length (relation_bytes f r) ≡ relation_size f
  unfolding relation_bytes
  length_relation r = simp (length-append, length_bytes) (omega arith)

  pub length_relations : (rels : List Relation) → length (concat_map (relation_bytes f) rels) ≡ relations_size f (length rels)
  length_relations rels = length_concat_map (relation_bytes f) (relation_size f) length_relation rels

  pub length_records : (net : Net) → length (records f net) ≡ records_size f (transition_count net)
  unfolding records
  length_records net = length_concat_map (record_bytes f.set_width) (record_size f) (length_record f.set_width) (transitions net)

  -- the record of the transition with this number
  pub record_at : (net : Net) (i : ℕ) (t : Transition) → get_elem? (transitions net) i ≡ some t
      → take (record_size f) (drop (records_size f i) (records f net)) ≡ record_bytes f.set_width t
  unfolding records
  record_at net i t e = concat_map_at (record_bytes f.set_width) (record_size f) (length_record f.set_width) (transitions net) i t e

  pub length_trailer : (e : Trailer) → length (trailer_bytes f e) ≡ trailer_size f
  unfolding trailer_bytes
  length_trailer e = simp (length-append, length_bytes)

  -- the length of an image, which refusal 4 compares
  pub length_image : (net : Net) → length (image f net) ≡ size net + (relations_size f (relation_count net) + (records_size f (transition_count net) + trailer_size f))
  unfolding image
  length_image net = simp (length-append, length_trailer, length_relations, length_records)

set_bytes_are : (w : ℕ) (f : Set) → Each IsByte (set_bytes w f)
unfolding set_bytes
set_bytes_are w f = go (range 0 w)
  where
    go : (is : List ℕ) → Each IsByte (map (λ i. number 8 (from (8 * i) f)) is)
    go [] = nil
    go (i ∷ is) = cons (number_below 8 (from (8 * i) f)) (go is)

record_bytes_are : (w : ℕ) (t : Transition) → t.priority ≤ 2 → Each IsByte (record_bytes w t)
unfolding record_bytes
record_bytes_are w t h =
    let s : (f : Set) → Each IsByte (set_bytes w f) = set_bytes_are w in
    cons {x = t.priority} (omega arith)
    (each_append (each_append (each_append (each_append (each_append (each_append (each_append (s _) (s _)) (s _)) (s _)) (s _)) (s _)) (s _)) (s _))

relation_bytes_are : (f : Format) (r : Relation) → Each IsByte (relation_bytes f r)
unfolding relation_bytes
relation_bytes_are f r = write_are (relation_fields f) (r.kind ∷ r.a ∷ r.b ∷ [])

trailer_bytes_are : (f : Format) (e : Trailer) → Each IsByte (trailer_bytes f e)
unfolding trailer_bytes
trailer_bytes_are f e =
    write_are (trailer_fields f) (e.to_relations ∷ e.to_records ∷ e.n ∷ e.r ∷ e.t ∷ e.padding ∷ e.edition ∷ [])

-- every byte of a valid net's image is one
pub image_bytes : (f : Format) (net : Net) → Valid f net → Each IsByte (image f net)
unfolding image records
image_bytes f net v =
    each_append v.bytes
    (each_append (each_concat_map (relation_bytes f) (any_false (misfit (size net)) net.rels v.fits) (λ r _. relation_bytes_are f r))
    (each_append (each_concat_map (record_bytes f.set_width) (sound net) (λ t s. record_bytes_are f.set_width t s.low))
    (trailer_bytes_are f _)))
