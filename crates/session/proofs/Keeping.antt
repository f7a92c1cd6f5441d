-- Laws of what is kept of a line: one byte more, whether there is any, and what the line says.
-- Assumes nothing.
use Prim.Native.Nat.{ℕ, suc, ◌+◌, ◌<◌, ◌≤◌, min}
use native.Mathlib.Numerals.{add-one}
use native.Mathlib.Omega.{arith}
use mathlib.Core.Path.{◌≡◌, refl, sym, ap, subst, ◌∙◌}
use mathlib.Core.Logic.{◌⊎◌, ⊎_elim}
use mathlib.Core.Bool.{Bool, true, false, cond}
use mathlib.Core.List.{List, [], ◌∷◌, ◌++◌, append_assoc, append-nil}
use lib.Dec.{ltb}
use lib.ListN.{length, take, set, length-append, length-set}
use lib.Seq.{take_all, take-suc-set, take-append-le}
use borrow.Author.Tests.{ltb-true, ltb-false, lt-ltb, le-ltb}
use Rattle.std.specs.Prelude.{Option, None}
use Rattle.model.specs.declared.Call.{Call}
use Rattle.session.specs.Calls.{said}
use Rattle.session.specs.Kept.{Holds, no_bytes, extended, Pushed, said_of, Means, Begun, taken}
use Rattle.session.specs.Claims.{KeepsEnough}
use Rattle.session.specs.declared.line.Line.{Line}
use Rattle.session.proofs.Spelling.{says_too_long}

module _ (line : Line) (b : ℕ) (full : length line.start ≡ 4) (bytes : List ℕ) (h : Holds line bytes) where
  -- there is room for b
  room : line.len < 4 → Holds (record { start = set line.start line.len b; len = line.len + 1 }) (bytes ++ (b ∷ []))
  room p =
      let n : length bytes ≡ line.len = omega (arith, h.count) in
      let m : length (bytes ++ (b ∷ [])) ≡ line.len + 1 = length-append bytes (b ∷ []) ∙ ap (λ (x : ℕ). x + 1) n in
      record {
        count = omega arith;
        first =
            ap (λ (k : ℕ). take k (set line.start line.len b)) (add-one line.len)
            ∙ take-suc-set line.start line.len b (omega arith)
            ∙ ap (λ (l : List ℕ). l ++ (b ∷ [])) (h.first ∙ take_all 4 bytes (omega arith))
            ∙ sym (take_all 4 (bytes ++ (b ∷ [])) (omega arith));
      }

  -- there is none
  no_room : 4 ≤ line.len → Holds (record { start = line.start; len = 5 }) (bytes ++ (b ∷ []))
  no_room p =
      let n : 4 ≤ length bytes = omega (arith, h.count) in
      let m = length-append bytes (b ∷ []) in
      record {
        count = omega arith;
        first =
            take_all 5 line.start (omega arith)
            ∙ sym (take_all line.len line.start (omega arith))
            ∙ h.first
            ∙ sym (take-append-le 4 bytes (b ∷ []) n);
      }

module _ (line : Line) (b : ℕ) where
  -- the line with b, by whether there is room for it
  abbrev with_byte : Bool → Line
  with_byte t = record { start = cond t (set line.start line.len b) line.start; len = cond t (line.len + 1) 5 }

  module _ (full : length line.start ≡ 4) where
    with_byte_holds : (bytes : List ℕ) → Holds line bytes → (t : Bool) → ltb line.len 4 ≡ t → Holds (with_byte t) (bytes ++ (b ∷ []))
    with_byte_holds bytes h true e = room line b full bytes h (ltb-true line.len 4 e)
    with_byte_holds bytes h false e = no_room line b full bytes h (ltb-false line.len 4 e)

    extended_holds : (bytes : List ℕ) → Holds line bytes → Holds (extended line b) (bytes ++ (b ∷ []))
    extended_holds bytes h = with_byte_holds bytes h (ltb line.len 4) refl

    with_byte_full : (t : Bool) → length (with_byte t).start ≡ 4
    with_byte_full true = length-set line.start line.len b ∙ full
    with_byte_full false = full

    extended_full : length (extended line b).start ≡ 4
    extended_full = with_byte_full (ltb line.len 4)

    pub pushed_kept : line.len < 4 → Pushed line b (with_byte true)
    pushed_kept p = let e = lt-ltb line.len 4 p in record { is = ap with_byte (sym e); holds = λ bytes h. with_byte_holds bytes h true e }

    pub pushed_over : 4 ≤ line.len → Pushed line b (with_byte false)
    pushed_over p = let e = le-ltb line.len 4 p in record { is = ap with_byte (sym e); holds = λ bytes h. with_byte_holds bytes h false e }

said_same : (line : Line) (bytes : List ℕ) → Holds line bytes → said_of line ≡ said bytes
said_same line bytes h = go (ltb 4 line.len) refl
  where
    go : (t : Bool) → ltb 4 line.len ≡ t → cond t None (said (take line.len line.start)) ≡ said bytes
    go true e = let p = ltb-true 4 line.len e in sym (says_too_long bytes (omega (arith, h.count)))
    go false e = let p = ltb-false 4 line.len e in ap said (h.first ∙ take_all 4 bytes (omega (arith, h.count)))

means : (line : Line) (r : Option Call) → r ≡ said_of line → Means line r
means line r e = record { is = e; says = λ bytes h. e ∙ said_same line bytes h }

pub begun : (line : Line) (r : Bool) → r ≡ ltb 0 line.len → Begun line r
begun line r e = record { is = e; says = λ bytes h. e ∙ ap (ltb 0) h.count ∙ go bytes }
  where
    go : (bytes : List ℕ) → ltb 0 (min (length bytes) 5) ≡ ltb 0 (length bytes)
    go [] = refl
    go (x ∷ xs) = lt-ltb 0 (min (suc (length xs)) 5) (omega arith) ∙ sym (lt-ltb 0 (suc (length xs)) (omega arith))

module _ (line : Line) where
  -- what a line says, by whether it is longer than what is kept
  abbrev said_by : Bool → Option Call
  said_by t = cond t None (said (take line.len line.start))

  means_nothing : 4 < line.len → Means line None
  means_nothing p = means line None (ap said_by (sym (lt-ltb 4 line.len p)))

  -- the kept bytes end before the line does
  pub means_over : length line.start ≡ 4 → (line.len < 0) ⊎ (length line.start < line.len) → Means line None
  means_over full = ⊎_elim (λ (h : line.len < 0). absurd (omega arith)) (λ (h : length line.start < line.len). means_nothing (omega arith))

  pub means_kept : (r : Option Call) → line.len ≤ 4 → r ≡ said (take line.len line.start) → Means line r
  means_kept r p e = means line r (e ∙ ap said_by (sym (le-ltb 4 line.len p)))

-- the bytes of a line taken in one at a time
taken_holds : (line : Line) (bytes more : List ℕ) → length line.start ≡ 4 → Holds line bytes → Holds (taken line more) (bytes ++ more)
taken_holds line bytes [] full h = subst (Holds line) (sym (append-nil bytes)) h
taken_holds line bytes (b ∷ bs) full h =
    subst (Holds (taken (extended line b) bs)) (append_assoc bytes (b ∷ []) bs)
    (taken_holds (extended line b) (bytes ++ (b ∷ [])) bs (extended_full line b full) (extended_holds line b full bytes h))

pub keeps_enough : KeepsEnough
keeps_enough bytes =
    said_same (taken no_bytes bytes) bytes (taken_holds no_bytes [] bytes refl (record { count = refl; first = refl }))

-- a line with a byte keeps one
pub kept_empty : (b : ℕ) (bs : List ℕ) → ltb 0 (taken no_bytes (b ∷ bs)).len ≡ true
kept_empty b bs =
    let h = taken_holds no_bytes [] (b ∷ bs) refl (record { count = refl; first = refl }) in
    lt-ltb 0 (taken no_bytes (b ∷ bs)).len (omega (arith, h.count))
