-- The bytes of words: cut, joined, read back.
-- Assumes nothing.
use Rattle.std.proofs.Common.{◌≡◌, ℕ, zero, suc, ◌+◌, ◌*◌, ◌/◌, ◌%◌, ◌^◌, ◌<◌, Bool, ◌&&◌, List, [], ◌∷◌, ◌++◌, map, length, take, drop, eqb, refl, sym, ap, ap₂, ◌∙◌, append-nil, suc-add, zero-add, add-zero, zero-mul, mul_assoc, arith, pow-add, eqb-true, eq-eqb}
use Rattle.std.proofs.Math.Bool.{and_assoc}
use Rattle.std.specs.Int.{w64, to_le_bytes}
use Rattle.std.proofs.lemmas.Nat.{mod-pow-add}
use Rattle.model.specs.Sets.{Set, from, number, range, equal_lists}
use Rattle.model.specs.Image.{bytes, from_bytes, set_bytes}
use Rattle.model.proofs.Masks.{number_below, number_cong}
use Rattle.sets.proofs.Laws.{same_bool, number_split}
use Rattle.model.proofs.Fields.{from_to_bytes}
use Rattle.model.proofs.Sizes.{equal_refl, equal_true}

simple : (a b y p : ℕ) → a * 256 + b + y * (p * 256) ≡ b + 256 * (a + y * p)
simple a b y p = let m = mul_assoc y p 256 in omega arith

-- two numbers as one, the second above the first's lowest bytes
pub bytes_join : (k m x y : ℕ) → bytes (k + m) (x % 2 ^ (8 * k) + y * 2 ^ (8 * k)) ≡ bytes k x ++ bytes m y
bytes_join zero m x y = let e : x % 1 + y * 1 ≡ y = omega arith in λ i. bytes (zero-add m i) (e i)
bytes_join (suc k) m x y =
    let e : 8 * suc k ≡ 8 * k + 8 = omega arith in
    let p : ℕ = 2 ^ (8 * k) in
    let z : ℕ = x % 2 ^ (8 * suc k) + y * 2 ^ (8 * suc k) in
    let split : z ≡ x % 256 + 256 * (x / 256 % p + y * p) = whole e in
    ap (λ (n : ℕ). bytes n z) (suc-add k m)
    ∙ ap₂ (λ (a b : ℕ). a ∷ bytes (k + m) b) (low (x % 256) _ z split (omega arith) ∙ omega arith) (high (x % 256) _ z split (omega arith))
    ∙ ap (λ (l : List ℕ). x % 256 ∷ l) (bytes_join k m (x / 256) y)
  where
    low : (a b z : ℕ) → z ≡ a + 256 * b → a < 256 → z % 256 ≡ a
    low a b z s h = omega arith

    high : (a b z : ℕ) → z ≡ a + 256 * b → a < 256 → z / 256 ≡ b
    high a b z s h = omega arith

    whole : 8 * suc k ≡ 8 * k + 8 → x % 2 ^ (8 * suc k) + y * 2 ^ (8 * suc k) ≡ x % 256 + 256 * (x / 256 % 2 ^ (8 * k) + y * 2 ^ (8 * k))
    whole e =
        let p : ℕ = 2 ^ (8 * k) in
        let g = mod-pow-add x (8 * k) 8 in
        let h = pow-add 2 (8 * k) 8 in
        ap (λ (n : ℕ). x % 2 ^ n + y * 2 ^ n) e ∙ ap₂ (λ (a b : ℕ). a + y * b) g h ∙ simple (x / 256 % p) (x % 256) y p

-- only the lowest bytes count
bytes_low : (k x : ℕ) → bytes k (x % 2 ^ (8 * k)) ≡ bytes k x
bytes_low k x =
    let p : ℕ = 2 ^ (8 * k) in
    let e : x % p + 0 * p ≡ x % p = let z = zero-mul p in omega arith in
    sym (λ i. bytes (add-zero k i) (e i)) ∙ bytes_join k 0 x 0 ∙ append-nil (bytes k x)

-- a word's bytes, as std's and as the model's
pub le_bytes_are : (x : ℕ) → to_le_bytes w64 x ≡ bytes 8 x
le_bytes_are x =
    let c : x / 65536 % 256 ≡ x / 256 / 256 % 256 = omega arith in
    let d : x / 16777216 % 256 ≡ x / 256 / 256 / 256 % 256 = omega arith in
    let e : x / 4294967296 % 256 ≡ x / 256 / 256 / 256 / 256 % 256 = omega arith in
    let f : x / 1099511627776 % 256 ≡ x / 256 / 256 / 256 / 256 / 256 % 256 = omega arith in
    let g : x / 281474976710656 % 256 ≡ x / 256 / 256 / 256 / 256 / 256 / 256 % 256 = omega arith in
    let h : x / 72057594037927936 % 256 ≡ x / 256 / 256 / 256 / 256 / 256 / 256 / 256 % 256 = omega arith in
    λ i. x % 256 ∷ x / 256 % 256 ∷ c i ∷ d i ∷ e i ∷ f i ∷ g i ∷ h i ∷ []

-- six bytes of two numbers are the same where the numbers are, up to them
six_same : (x y : ℕ) → eqb (x % 281474976710656) (y % 281474976710656) ≡ equal_lists (bytes 6 x) (bytes 6 y)
six_same x y =
    same_bool _ _
    (λ h.
    let s = eqb-true (x % 281474976710656) (y % 281474976710656) h in
    ap (equal_lists (bytes 6 x)) (sym (bytes_low 6 y) ∙ ap (bytes 6) (sym s) ∙ bytes_low 6 x) ∙ equal_refl (bytes 6 x))
    (λ h.
    let s = equal_true (bytes 6 x) (bytes 6 y) h in
    eq-eqb (x % 281474976710656) (y % 281474976710656) (made x ∙ ap from_bytes s ∙ sym (made y)))
  where
    made : (z : ℕ) → z % 281474976710656 ≡ from_bytes (bytes 6 z)
    made z =
        let below : z % 281474976710656 < 256 ^ 6 = omega arith in
        sym (from_to_bytes 6 (z % 281474976710656) below) ∙ ap from_bytes (bytes_low 6 z)

-- the first six bytes of a word, and the last six
pub low_same : (x w : ℕ) → eqb (x % 281474976710656) (w % 281474976710656) ≡ equal_lists (take 6 (to_le_bytes w64 x)) (bytes 6 w)
low_same x w = six_same x w ∙ ap (λ (l : List ℕ). equal_lists (take 6 l) (bytes 6 w)) (sym (le_bytes_are x))

pub high_same : (x w : ℕ) → x < 2 ^ 64 → eqb (x / 65536) (w % 281474976710656) ≡ equal_lists (drop 2 (to_le_bytes w64 x)) (bytes 6 w)
high_same x w fits =
    let high : x / 65536 ≡ x / 256 / 256 % 281474976710656 = omega arith in
    ap (λ (m : ℕ). eqb m (w % 281474976710656)) high
    ∙ six_same (x / 256 / 256) w
    ∙ ap (λ (l : List ℕ). equal_lists (drop 2 l) (bytes 6 w)) (sym (le_bytes_are x))

-- lists in two parts, the first parts of one length
pub equal_append : (a b c d : List ℕ) → length a ≡ length c → equal_lists (a ++ b) (c ++ d) ≡ (equal_lists a c && equal_lists b d)
equal_append [] b [] d e = refl
equal_append [] b (y ∷ c) d e = absurd (omega arith)
equal_append (x ∷ a) b [] d e = absurd (omega arith)
equal_append (x ∷ a) b (y ∷ c) d e =
    ap (λ (t : Bool). eqb x y && t) (equal_append a b c d (omega arith)) ∙ sym (and_assoc (eqb x y) (equal_lists a c) (equal_lists b d))

-- the bytes of a word are those of the set that it holds
set_bytes_from : (k w j : ℕ) (f : Set) → bytes k (number (8 * k + w) (from (8 * j) f)) ≡ map (λ i. number 8 (from (8 * i) f)) (range j k)
set_bytes_from zero w j f = refl
set_bytes_from (suc k) w j f =
    let g : Set = from (8 * j) f in
    let e : 8 * suc k + w ≡ 8 + (8 * k + w) = omega arith in
    let s : number (8 * suc k + w) g ≡ number 8 g + 256 * number (8 * k + w) (from 8 g) = ap (λ (n : ℕ). number n g) e ∙ number_split 8 (8 * k + w) g in
    let below = number_below 8 g in
    let low : number (8 * suc k + w) g % 256 ≡ number 8 g = omega arith in
    let high : number (8 * suc k + w) g / 256 ≡ number (8 * k + w) (from 8 g) = omega arith in
    let next : number (8 * k + w) (from 8 g) ≡ number (8 * k + w) (from (8 * suc j) f) = number_cong (8 * k + w) (from 8 g) (from (8 * suc j) f) (λ i h. ap f (omega arith)) in
    ap₂ (λ (x : ℕ) (xs : List ℕ). x ∷ xs) low (ap (bytes k) (high ∙ next) ∙ set_bytes_from k w (suc j) f)

pub word_bytes : (f : Set) → bytes 6 (number 64 f) ≡ set_bytes 6 f
unfolding set_bytes number
word_bytes f = set_bytes_from 6 16 0 f
