-- Relations read from triples of bytes, one by one.
-- Assumes nothing.
use Rattle.std.proofs.Common.{◌≡◌, ℕ, zero, suc, ◌+◌, ◌<◌, ◌≤◌, Bool, false, ◌||◌, List, [], ◌∷◌, ◌++◌, length, get_or, take, drop, refl, ap, ap₂, ◌∙◌, sym, add-zero, inl, inr, Result, Ok, Err, arith}
use Rattle.std.proofs.lemmas.List.{map-append, take_more}
use Rattle.std.proofs.lemmas.List.Folds.{list_any-append, list_any_at}
use Rattle.std.specs.List.{list_any}
use borrow.Author.Tests.{le-ltb, lt-leb, ne_eqb}
use Rattle.std.specs.Simd.{first_chunks}
use Rattle.std.proofs.Math.Bool.{or-false}
use Rattle.model.specs.Sets.{any}
use Rattle.model.specs.Relations.{misfit, excludes, last_kind}
use Rattle.model.specs.declared.Relation.{Relation}
use Rattle.model.specs.Image.{edition_1, read, relation_fields, relation_from, read_relations}
use Rattle.model.proofs.Ready.{Fitting, fitting}
use Rattle.model.proofs.Tests.{or_none, or_false_left, or_false_right, not_true, not_both}
use Rattle.std.specs.Result.{IsOk}
use Rattle.relations.specs.declared.kind.Kind.{Kind}
use Rattle.relations.specs.declared.kind.UnknownKind.{UnknownKind}
use Rattle.relations.specs.Kinds.{kind_number, Decodes, IsNoKind}
use Rattle.relations.specs.Reading.{relations_of, misfits_triple}

-- the relation at the front is that of the first three bytes
front : (bs : List ℕ) → relation_from (read (relation_fields edition_1) bs) ≡ relation_from (take 3 bs)
front [] = refl
front (x ∷ []) = λ j. record { kind = add-zero x j; a = 0; b = 0 }
front (x ∷ y ∷ []) = λ j. record { kind = add-zero x j; a = add-zero y j; b = 0 }
front (x ∷ y ∷ z ∷ zs) = λ j. record { kind = add-zero x j; a = add-zero y j; b = add-zero z j }

-- the relations of bytes are those of their triples
pub relations_read : (k : ℕ) (bs : List ℕ) → read_relations edition_1 k bs ≡ relations_of (first_chunks 3 k bs)
relations_read zero bs = refl
relations_read (suc k) bs = ap₂ (λ (r : Relation) (l : List Relation). r ∷ l) (front bs) (relations_read k (drop 3 bs))

any_map : (p : Relation → Bool) (triples : List (List ℕ)) → any p (relations_of triples) ≡ list_any (λ t. p (relation_from t)) triples
any_map p [] = refl
any_map p (t ∷ triples) = ap (λ (b : Bool). p (relation_from t) || b) (any_map p triples)

pub any_relations : (n : ℕ) (triples : List (List ℕ)) → any (misfit n) (relations_of triples) ≡ list_any (misfits_triple n) triples
any_relations n = any_map (misfit n)

-- a test of a list that grows at its end
pub any_snoc : (f : Relation → Bool) (xs : List Relation) (x : Relation) → any f (xs ++ (x ∷ [])) ≡ (any f xs || f x)
any_snoc f xs x = list_any-append f xs (x ∷ []) ∙ ap (λ (b : Bool). any f xs || b) (or-false (f x))

-- one relation more
pub one_more : (i : ℕ) (triples : List (List ℕ)) → i < length triples
    → relations_of (take (i + 1) triples) ≡ relations_of (take i triples) ++ (relation_from (get_or triples i []) ∷ [])
one_more i triples inside =
    ap relations_of (take_more triples i [] inside) ∙ map-append relation_from (take i triples) (get_or triples i [] ∷ [])

-- a relation of a list of which none is a misfit
pub fits_at : (n : ℕ) (triples : List (List ℕ)) → any (misfit n) (relations_of triples) ≡ false
    → (i : ℕ) → i < length triples → misfit n (relation_from (get_or triples i [])) ≡ false
fits_at n triples e i inside =
    not_true (misfit n (relation_from (get_or triples i []))) (λ t. not_both (list_any (misfits_triple n) triples) (list_any_at (misfits_triple n) triples i [] inside t) (sym (any_relations n triples) ∙ e))

-- what fits n contexts fits more
misfit_wider : (n m : ℕ) → n ≤ m → (r : Relation) → misfit n r ≡ false → misfit m r ≡ false
unfolding misfit
misfit_wider n m h r e =
    let f = fitting n r e in
    let least = f.least in
    let most = f.most in
    let left = f.ends.left in
    let right = f.ends.right in
    rw (le-ltb r.kind excludes least, le-ltb last_kind r.kind most, lt-leb m r.a (omega arith), lt-leb m r.b (omega arith)) (ne_eqb r.a r.b f.ends.differ)

pub fits_wider : (n m : ℕ) → n ≤ m → (rels : List Relation) → any (misfit n) rels ≡ false → any (misfit m) rels ≡ false
fits_wider n m h [] e = refl
fits_wider n m h (r ∷ rels) e =
    or_none (misfit_wider n m h r (or_false_left (misfit n r) (any (misfit n) rels) e)) (fits_wider n m h rels (or_false_right (misfit n r) (any (misfit n) rels) e))

-- its kind is one of the five
pub no_kind : (n : ℕ) (r : Relation) → Fitting n r → IsNoKind r.kind → ⊥
no_kind n r f (inl e) = omega (arith, f.least, e)
no_kind n r f (inr e) = omega (arith, f.most, e)

-- a byte that is a kind is decoded, as the kind that it stands for
pub known : (byte : ℕ) (r : Result Kind UnknownKind) → Decodes byte r → (IsNoKind byte → ⊥) → IsOk r
known byte (Ok k) d n = refl
known byte (Err e) d n = absurd (n d.1)

pub decoded : (byte : ℕ) (r : Result Kind UnknownKind) (k : Kind) → Decodes byte r → r ≡ Ok k → kind_number k ≡ byte
decoded byte r k d e = rw e at d
