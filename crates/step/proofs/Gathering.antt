-- Flags, a byte for each context, and the set that they are gathered into, four at a time; and what such a set says of each context.
-- Assumes nothing.
use Prim.Native.Nat.{ℕ, zero, suc, ◌+◌, ◌-◌, ◌*◌, ◌/◌, ◌%◌, ◌^◌, ◌<◌, ◌≤◌}
use mathlib.Core.Bool.{Bool, true, false, ◌&&◌}
use mathlib.Core.Path.{◌≡◌, refl, sym, ap, ◌∙◌}
use mathlib.Core.List.{List, [], ◌∷◌}
use native.Mathlib.Decide.{ℕ_discrete, dec_lt}
use native.Mathlib.Omega.{arith}
use borrow.Author.Tests.{le-ltb}
use lib.Dec.{ltb}
use lib.ListN.{length, get_or, set, replicate, length-replicate, length-set}
use Rattle.std.specs.Simd.{first_chunks}
use Rattle.std.specs.Prelude.{drop}
use Rattle.std.proofs.lemmas.List.{get_or-take, get_or-drop, get_or_past, length-take-le, length-drop}
use lib.Pow.{pow_mono}
use lib.Seq.{get_or-set_same, get_or-set_other}
use mir.Val.{bool_byte}
use Rattle.std.proofs.Common.{w32}
use Rattle.std.specs.Int.{from_le_bytes}
use Rattle.sets.specs.Sets.{members, upto}
use Rattle.sets.proofs.Laws.{contained, number_split}
use Rattle.model.specs.Sets.{Set, bit, from, number}
use Rattle.model.proofs.Masks.{bit_lt, number_below, number_cong}
use Rattle.step.specs.Spare.{below, spare_word}
use Rattle.step.specs.Flags.{flagged, Flags}

pub bit_held : (b : Bool) → ltb 0 (bit b) ≡ b
bit_held true = refl
bit_held false = refl

pub bit_of_byte : (b : Bool) → bool_byte b ≡ bit b
bit_of_byte true = refl
bit_of_byte false = refl

-- Four flags that stand eight digits apart. In the product with 1 + 2^7 + 2^14 + 2^21 flag i stands at digit 21 + i.
four_digits : (a b c d : Bool)
    → from_le_bytes w32 (bit a ∷ bit b ∷ bit c ∷ bit d ∷ []) * 2113665 / 2097152 % 16 ≡ bit a + 2 * (bit b + 2 * (bit c + 2 * (bit d + 2 * 0)))
four_digits true true true true = refl
four_digits true true true false = refl
four_digits true true false true = refl
four_digits true true false false = refl
four_digits true false true true = refl
four_digits true false true false = refl
four_digits true false false true = refl
four_digits true false false false = refl
four_digits false true true true = refl
four_digits false true true false = refl
four_digits false true false true = refl
four_digits false true false false = refl
four_digits false false true true = refl
four_digits false false true false = refl
four_digits false false false true = refl
four_digits false false false false = refl

flag_is : (x : ℕ) → x ≤ 1 → x ≡ bit (ltb 0 x)
flag_is zero h = refl
flag_is (suc zero) h = refl
flag_is (suc (suc x)) h = absurd (omega arith)

pub four_flags : (l : List ℕ) → length l ≡ 4 → Flags l → from_le_bytes w32 l * 2113665 / 2097152 % 16 ≡ number 4 (flagged l)
unfolding number
four_flags [] h fl = absurd (omega (arith, h))
four_flags (p ∷ []) h fl = absurd (omega (arith, h))
four_flags (p ∷ q ∷ []) h fl = absurd (omega (arith, h))
four_flags (p ∷ q ∷ r ∷ []) h fl = absurd (omega (arith, h))
four_flags (p ∷ q ∷ r ∷ s ∷ []) h fl =
    (λ i. from_le_bytes w32 (flag_is p (fl 0) i ∷ flag_is q (fl 1) i ∷ flag_is r (fl 2) i ∷ flag_is s (fl 3) i ∷ []) * 2113665 / 2097152 % 16)
    ∙ four_digits (ltb 0 p) (ltb 0 q) (ltb 0 r) (ltb 0 s)
four_flags (p ∷ q ∷ r ∷ s ∷ t ∷ l) h fl = absurd (omega (arith, h))

-- an entry of the fours is four entries of the whole
four_at : (m i j : ℕ) (l : List ℕ) → i < m → j < 4 → get_or (get_or (first_chunks 4 m l) i []) j 0 ≡ get_or l (4 * i + j) 0
four_at zero i j l h k = absurd (omega arith)
four_at (suc m) zero j l h k = get_or-take 4 l j 0 k ∙ ap (λ (x : ℕ). get_or l x 0) (let e : j ≡ 4 * 0 + j = omega arith in e)
four_at (suc m) (suc i) j l h k =
    four_at m i j (drop 4 l) (omega arith) k ∙ get_or-drop 4 l (4 * i + j) 0
    ∙ ap (λ (x : ℕ). get_or l x 0) (let e : 4 + (4 * i + j) ≡ 4 * suc i + j = omega arith in e)

four_size : (m i : ℕ) (l : List ℕ) → i < m → 4 * m ≤ length l → length (get_or (first_chunks 4 m l) i []) ≡ 4
four_size zero i l h k = absurd (omega arith)
four_size (suc m) zero l h k = length-take-le 4 l (omega arith)
four_size (suc m) (suc i) l h k = four_size m i (drop 4 l) (omega arith) (omega (arith, k, length-drop 4 l))

module _ {fours : List (List ℕ)} {m : ℕ} (l : List ℕ) (e : fours ≡ first_chunks 4 m l) (k : ℕ) (inside : k < m) where
  pub fours_flags : 4 * m ≤ length l → Flags l → Flags (get_or fours k [])
  fours_flags long fl j = go (dec_lt j 4)
    where
      go : Dec (j < 4) → get_or (get_or fours k []) j 0 ≤ 1
      go (yes h) = omega (arith, ap (λ (x : List (List ℕ)). get_or (get_or x k []) j 0) e, four_at m k j l inside h, fl (4 * k + j))
      go (no h) = omega (arith, get_or_past (get_or fours k []) j 0 (omega (arith, ap (λ (x : List (List ℕ)). length (get_or x k [])) e, four_size m k l inside long)))

  pub fours_number : number 4 (flagged (get_or fours k [])) ≡ number 4 (from (4 * k) (flagged l))
  fours_number =
      number_cong 4 _ _ (λ j h. ap (ltb 0) (ap (λ (x : List (List ℕ)). get_or (get_or x k []) j 0) e ∙ four_at m k j l inside h))

-- The digits of a set from 4k on, of those below 4 top: none, four more below them, and all. A loop from top down to 0 makes a word so.
module _ (top : ℕ) (f : Set) where
  pub gather_none : 0 ≡ number (4 * (top - top)) (from (4 * top) f)
  unfolding number
  gather_none = let e : 0 ≡ 4 * (top - top) = omega arith in ap (λ (k : ℕ). number k (from (4 * top) f)) e

  pub gather_more : (k k' : ℕ) {a q r : ℕ} → k' + 1 ≡ k → k ≤ top → a ≡ number (4 * (top - k)) (from (4 * k) f) → q ≡ number 4 (from (4 * k') f) → r ≡ 16 * a + q
      → r ≡ number (4 * (top - k')) (from (4 * k') f)
  gather_more k k' {a} {q} {r} h l ha hq e =
      let g = from (4 * k') f in
      let width : 4 + 4 * (top - k) ≡ 4 * (top - k') = omega arith in
      let split : number (4 + 4 * (top - k)) g ≡ number 4 g + 16 * number (4 * (top - k)) (from 4 g) = number_split 4 (4 * (top - k)) g in
      let same : number (4 * (top - k)) (from (4 * k) f) ≡ number (4 * (top - k)) (from 4 g) =
      number_cong (4 * (top - k)) (from (4 * k) f) (from 4 g) (λ j m. let p : 4 * k + j ≡ 4 * k' + (4 + j) = omega arith in ap f p) in
      let whole : r ≡ number (4 + 4 * (top - k)) g = omega (arith, e, ha, hq, split, same) in
      whole ∙ ap (λ (w : ℕ). number w g) width

  -- and those below n, of all
  pub gather_all : (n : ℕ) {a r : ℕ} → n ≤ 4 * top → a ≡ number (4 * (top - 0)) (from (4 * 0) f) → r ≡ number 64 (upto n (members a)) → r ≡ number 64 (upto n f)
  gather_all n {a} l e q = q ∙ number_cong 64 (upto n (members a)) (upto n f) (λ j m. go j (dec_lt j n))
    where
      go : (j : ℕ) → Dec (j < n) → (ltb j n && members a j) ≡ (ltb j n && f j)
      go j (yes h) =
          let x : 4 * 0 + j ≡ j = omega arith in
          ap (λ (b : Bool). ltb j n && b) (contained (4 * (top - 0)) (from (4 * 0) f) e j (omega arith) ∙ ap f x)
      go j (no h) = let z = le-ltb j n (omega arith) in ap (λ (b : Bool). b && members a j) z ∙ sym (ap (λ (b : Bool). b && f j) z)

  -- the word has room for four more
  pub gather_low : (k : ℕ) {a : ℕ} → top ≤ 12 → 0 < k → a ≡ number (4 * (top - k)) (from (4 * k) f) → a < 17592186044416
  gather_low k h m e =
      let q : 4 * (top - k) ≤ 44 = omega arith in
      let p : 2 ^ (4 * (top - k)) ≤ 2 ^ 44 = pow_mono q in
      omega (arith, e, number_below (4 * (top - k)) (from (4 * k) f), p)

pub zeros_at : (k j : ℕ) → ◌≡◌ {A = ℕ} (get_or (replicate k 0) j 0) 0
zeros_at zero j = refl
zeros_at (suc k) zero = refl
zeros_at (suc k) (suc j) = zeros_at k j

-- the flags of a set, made as far as c
pub record Made (f : Set) (c : ℕ) (l : List ℕ) : Type 0 where
  pub size : length l ≡ 48
  pub done : (j : ℕ) → j < c → get_or l j 0 ≡ bit (f j)
  pub rest : (j : ℕ) → c ≤ j → get_or l j 0 ≡ 0

module _ (f : Set) where
  pub made_start : Made f 0 (replicate 48 0)
  made_start = record { size = length-replicate {A = ℕ} 48 0; done = λ j h. absurd (omega arith); rest = λ j h. zeros_at 48 j }

  module _ {c : ℕ} {l : List ℕ} (m : Made f c l) where
    pub made_turn : c < 48 → {v : ℕ} → v ≡ bit (f c) → Made f (c + 1) (set l c v)
    made_turn h {v} e =
        record {
          size = length-set l c v ∙ m.size;
          done = λ j k. go j k (ℕ_discrete j c);
          rest = λ j k. get_or-set_other l c j v 0 (λ q. omega arith) ∙ m.rest j (omega arith);
        }
      where
        go : (j : ℕ) → j < c + 1 → Dec (j ≡ c) → get_or (set l c v) j 0 ≡ bit (f j)
        go j k (yes q) = ap (λ (x : ℕ). get_or (set l c v) x 0) q ∙ get_or-set_same l c v 0 (omega (arith, m.size)) ∙ e ∙ ap (λ (x : ℕ). bit (f x)) (sym q)
        go j k (no d) = get_or-set_other l c j v 0 d ∙ m.done j (omega arith)

    pub made_flags : Flags l
    made_flags j = go (dec_lt j c)
      where
        go : Dec (j < c) → get_or l j 0 ≤ 1
        go (yes h) = omega (arith, m.done j h, bit_lt (f j))
        go (no h) = omega (arith, m.rest j (omega arith))

    -- the set of the first n that are flagged, all of which are made
    pub made_set : (n : ℕ) → n ≤ c → {r : ℕ} → r ≡ number 64 (upto n (flagged l)) → r ≡ number 64 (upto n f)
    made_set n h e = e ∙ number_cong 64 (upto n (flagged l)) (upto n f) (λ j k. go j (dec_lt j n))
      where
        go : (j : ℕ) → Dec (j < n) → upto n (flagged l) j ≡ upto n f j
        go j (yes k) = ap (λ (x : ℕ). ltb j n && ltb 0 x) (m.done j (omega arith)) ∙ ap (λ (b : Bool). ltb j n && b) (bit_held (f j))
        go j (no k) = let z = le-ltb j n (omega arith) in ap (λ (b : Bool). b && flagged l j) z ∙ sym (ap (λ (b : Bool). b && f j) z)

-- the set that a step goes by holds c exactly where c is one of the n contexts and its count is below its capacity
pub spare_exact : (n : ℕ) (capacities counts : List ℕ) (c : ℕ) → c < 64 → members (spare_word n capacities counts) c ≡ (ltb c n && ltb (get_or counts c 0) (get_or capacities c 0))
spare_exact n capacities counts c h = contained 64 (upto n (below capacities counts)) refl c h
