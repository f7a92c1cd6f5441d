-- Records one behind the other, written and compared.
-- Assumes nothing.
use Rattle.std.proofs.Common.{◌≡◌, ℕ, ◌+◌, ◌-◌, ◌*◌, ◌≤◌, Bool, true, ◌&&◌, List, [], ◌∷◌, ◌++◌, length, map, take, drop, refl, sym, ap, ap₂, ◌∙◌, append_assoc, append-nil, arith, length-append, length-drop, length-take-le, take-append-drop, take_all}
use Rattle.std.proofs.lemmas.Slice.{take-put_mid}
use borrow.Rule.Slice.PartMut.{put_mid}
use Rattle.model.specs.Sets.{Each, nil, cons, concat_map, equal_lists}
use Rattle.model.specs.Relations.{Net}
use Rattle.model.specs.Transitions.{Transition, transitions}
use Rattle.model.specs.Image.{edition_1, record_bytes, records, set_bytes}
use Rattle.transitions.specs.declared.Arcs.{Arcs}
use Rattle.model.proofs.Walks.{TwoPriorities, two_priorities}
use Rattle.transitions.specs.Arcs.{arcs_of}
use Rattle.transitions.proofs.Words.{holds}
use Rattle.image.specs.Records.{record_of}
use Rattle.image.proofs.Words.{word_bytes, equal_append}

record_is : (t : Transition) → TwoPriorities t → record_of (arcs_of t) ≡ record_bytes 6 t
unfolding record_bytes set_bytes
record_is t two =
    λ i. (holds (arcs_of t) t two refl).priority i
    ∷ (word_bytes t.takes_context i
    ++ (word_bytes t.takes_pr i
    ++ (word_bytes t.takes_not i
    ++ (word_bytes t.gives_context i ++ (word_bytes t.gives_pr i ++ (word_bytes t.gives_not i ++ (word_bytes t.inhib_context i ++ word_bytes t.inhib_pr i)))))))

pub records_are : (net : Net) → concat_map record_of (map arcs_of (transitions net)) ≡ records edition_1 net
unfolding records
records_are net = go (two_priorities net)
  where
    go : {ts : List Transition} → Each TwoPriorities ts → concat_map record_of (map arcs_of ts) ≡ concat_map (record_bytes 6) ts
    go nil = refl
    go (cons {x = t} two ts) = ap₂ (λ (x y : List ℕ). x ++ y) (record_is t two) (go ts)

pub length_record_of : (a : Arcs) → length (record_of a) ≡ 49
length_record_of a = refl

-- one record is compared, and those that are still to come
pub same_more : (left : List ℕ) (a : Arcs) (s t : List Arcs) {all : Bool} → s ≡ a ∷ t → length left ≡ 49 * length s → (b : Bool) → b ≡ equal_lists (take 49 left) (record_of a)
    → equal_lists left (concat_map record_of s) ≡ all → (b && equal_lists (drop 49 left) (concat_map record_of t)) ≡ all
same_more left a s t e n b b_is inv =
    let l = length-take-le 49 left (omega (arith, ap length e)) in
    ap (λ (x : Bool). x && equal_lists (drop 49 left) (concat_map record_of t)) b_is
    ∙ sym (equal_append (take 49 left) (drop 49 left) (record_of a) (concat_map record_of t) l)
    ∙ ap₂ equal_lists (take-append-drop 49 left) (ap (concat_map record_of) (sym e))
    ∙ inv

-- and at the end there is nothing left
pub same_all : (left : List ℕ) (s : List Arcs) → s ≡ [] → length left ≡ 49 * length s → true ≡ equal_lists left (concat_map record_of s)
same_all [] s e n = ap (λ (z : List Arcs). equal_lists [] (concat_map record_of z)) (sym e)
same_all (b ∷ bs) s e n = absurd (omega (arith, ap length e))

-- a part is written over as many elements
pub length_written : (out new : List ℕ) (at end : ℕ) → at + length new ≡ end → end ≤ length out → length (put_mid at (end - at) out new) ≡ length out
length_written out new at end n h =
    let behind : List ℕ = drop (end - at) (drop at out) in
    omega (
      arith,
      length-append (take at out) (new ++ behind),
      length-append new behind,
      length-take-le at out (omega arith),
      length-drop (end - at) (drop at out),
      length-drop at out,
    )

-- one record more stands behind those that are written, and one less is still to come
pub written_more : (out new : List ℕ) (at : ℕ) (a : Arcs) (s t : List Arcs) {all : List ℕ} → s ≡ a ∷ t → new ≡ record_of a → at ≤ length out
    → take at out ++ concat_map record_of s ≡ all → take (at + 49) (put_mid at (at + 49 - at) out new) ++ concat_map record_of t ≡ all
written_more out new at a s t e n h inv =
    let l : at + 49 ≡ at + length new = ap (λ (k : ℕ). at + k) (sym (ap length n)) in
    ap (λ (z : List ℕ). z ++ concat_map record_of t) (take-put_mid at (at + 49 - at) out new (at + 49) l h)
    ∙ append_assoc (take at out) new (concat_map record_of t)
    ∙ ap (λ (z : List ℕ). take at out ++ (z ++ concat_map record_of t)) n
    ∙ ap (λ (z : List Arcs). take at out ++ concat_map record_of z) (sym e)
    ∙ inv

-- and at the end there are all
pub written_all : (out : List ℕ) (at : ℕ) (s : List Arcs) {all : List ℕ} → s ≡ [] → at + 49 * length s ≡ length out → take at out ++ concat_map record_of s ≡ all → out ≡ all
written_all out at s e h inv =
    sym (ap (λ (z : List Arcs). take at out ++ concat_map record_of z) e ∙ append-nil (take at out) ∙ take_all at out (omega (arith, ap length e, h))) ∙ inv
