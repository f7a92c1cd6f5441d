-- Lists copied into lists: a loop's turn, and what the copy holds.
-- Assumes nothing.
use Prim.Native.Nat.{ℕ, ◌+◌, ◌-◌, ◌≤◌, ◌<◌}
use native.Mathlib.Numerals.{add-one}
use native.Mathlib.Omega.{arith}
use mathlib.Core.Path.{◌≡◌, sym, ap, ◌∙◌}
use mathlib.Core.List.{List, ◌++◌}
use lib.ListN.{length, get_or, take, drop, set, get_or-append}
use lib.Seq.{get_or-take, get_or-drop, get_or-append-add, length-take-le, paste, paste-suc, length_paste_head}

-- one turn: what holds of j elements holds of j + 1
pub copied : (to : List ℕ) (at : ℕ) (from : List ℕ) (j : ℕ) (done : List ℕ) → at + j < length to → j < length from → done ≡ paste to at from j
    → set done (at + j) (get_or from j 0) ≡ paste to at from (j + 1)
copied to at from j done h k e =
    ap (λ (l : List ℕ). set l (at + j) (get_or from j 0)) e ∙ paste-suc to at from j 0 h k ∙ ap (paste to at from) (sym (add-one j))

module _ (to : List ℕ) (at : ℕ) (from : List ℕ) (n : ℕ) (h : at + n ≤ length to) (k : n ≤ length from) where
  head : length (take at to ++ take n from) ≡ at + n
  head = length_paste_head to at from n (omega arith) k

  -- where the copy stands
  pub copy_within : (j : ℕ) → j < n → get_or (paste to at from n) (at + j) 0 ≡ get_or from j 0
  copy_within j i =
      let q : length (take at to) ≡ at = length-take-le at to (omega arith) in
      get_or-append (take at to ++ take n from) (drop (at + n) to) 0 (at + j) (omega (arith, head))
      ∙ ap (λ (x : ℕ). get_or (take at to ++ take n from) (x + j) 0) (sym q)
      ∙ get_or-append-add (take at to) (take n from) j 0
      ∙ get_or-take n from j 0 i

  -- before it
  pub copy_before : (j : ℕ) → j < at → get_or (paste to at from n) j 0 ≡ get_or to j 0
  copy_before j i =
      let q : length (take at to) ≡ at = length-take-le at to (omega arith) in
      get_or-append (take at to ++ take n from) (drop (at + n) to) 0 j (omega (arith, head))
      ∙ get_or-append (take at to) (take n from) 0 j (omega (arith, q))
      ∙ get_or-take at to j 0 i

  -- and behind it
  pub copy_behind : (j : ℕ) → at + n ≤ j → get_or (paste to at from n) j 0 ≡ get_or to j 0
  copy_behind j i =
      let rest : ℕ = j - (at + n) in
      let e : j ≡ length (take at to ++ take n from) + rest = omega (arith, head) in
      let b : at + n + rest ≡ j = omega arith in
      ap (λ (x : ℕ). get_or (paste to at from n) x 0) e
      ∙ get_or-append-add (take at to ++ take n from) (drop (at + n) to) rest 0
      ∙ get_or-drop (at + n) to rest 0
      ∙ ap (λ (x : ℕ). get_or to x 0) b
