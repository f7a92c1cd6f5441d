-- Numbers in bytes, low byte first, and in fields one behind the other, for any widths.
-- Assumes nothing.
use Prim.Native.Nat.{ℕ, zero, suc, ◌+◌, ◌*◌, ◌^◌, ◌/◌, ◌%◌, ◌<◌, ◌≤◌}
use native.Mathlib.Nat.{pow-suc}
use native.Mathlib.Omega.{arith}
use mathlib.Core.Path.{◌≡◌, refl, sym, ap, ap₂, ◌∙◌}
use mathlib.Core.List.{List, [], ◌∷◌, ◌++◌, append_assoc}
use lib.ListN.{length, take, drop, length-drop}
use lib.Seq.{take_at, drop_at, take-add, length-take-le}
use Rattle.model.specs.Sets.{Each, nil, cons, IsByte, sum}
use Rattle.model.specs.Image.{bytes, from_bytes, write, read}
use Rattle.model.proofs.Tests.{each_append, each_take, each_drop}

pub length_bytes : (k x : ℕ) → length (bytes k x) ≡ k
length_bytes zero x = refl
length_bytes (suc k) x = ap suc (length_bytes k (x / 256))

pub bytes_are : (k x : ℕ) → Each IsByte (bytes k x)
bytes_are zero x = nil
bytes_are (suc k) x = cons {x = x % 256} (omega arith) (bytes_are k (x / 256))

pub from_to_bytes : (k x : ℕ) → x < 256 ^ k → from_bytes (bytes k x) ≡ x
from_to_bytes zero x h = omega arith
from_to_bytes (suc k) x h =
    let p : 256 ^ suc k ≡ 256 ^ k * 256 = pow-suc 256 k in
    let q : from_bytes (bytes k (x / 256)) ≡ x / 256 = from_to_bytes k (x / 256) (omega arith) in
    omega arith

pub to_from_bytes : {bs : List ℕ} → Each IsByte bs → bytes (length bs) (from_bytes bs) ≡ bs
to_from_bytes nil = refl
to_from_bytes (cons {x = b} {xs = bs} h hs) =
    let p : (b + 256 * from_bytes bs) % 256 ≡ b = omega arith in
    let q : (b + 256 * from_bytes bs) / 256 ≡ from_bytes bs = omega arith in
    ap₂ (λ (a : ℕ) (l : List ℕ). a ∷ l) p (ap (bytes (length bs)) q ∙ to_from_bytes hs)

-- each from_bytes fits its field
pub data InFields : List ℕ → List ℕ → Type 0 where
  none : InFields [] []
  field : {w x : ℕ} {ws xs : List ℕ} → x < 256 ^ w → InFields ws xs → InFields (w ∷ ws) (x ∷ xs)

pub read_write : {ws xs : List ℕ} → InFields ws xs → (rest : List ℕ) → read ws (write ws xs ++ rest) ≡ xs
read_write none rest = refl
read_write (field {w = w} {x = x} {ws = ws} {xs = xs} h hs) rest =
    let e : (bytes w x ++ write ws xs) ++ rest ≡ bytes w x ++ (write ws xs ++ rest) = append_assoc (bytes w x) (write ws xs) rest in
    ap (read (w ∷ ws)) e
    ∙ ap₂ (λ (a : ℕ) (l : List ℕ). a ∷ l)
    (ap from_bytes (take_at (bytes w x) (write ws xs ++ rest) w (length_bytes w x)) ∙ from_to_bytes w x h)
    (ap (read ws) (drop_at (bytes w x) (write ws xs ++ rest) w (length_bytes w x)) ∙ read_write hs rest)

pub write_read : (ws bs : List ℕ) → sum ws ≤ length bs → Each IsByte bs → write ws (read ws bs) ≡ take (sum ws) bs
write_read [] bs h all = refl
write_read (w ∷ ws) bs h all =
    let l : length (take w bs) ≡ w = length-take-le w bs (omega arith) in
    let p : bytes w (from_bytes (take w bs)) ≡ take w bs = ap (λ (k : ℕ). bytes k (from_bytes (take w bs))) (sym l) ∙ to_from_bytes (each_take w all) in
    let d = length-drop w bs in
    ap₂ (λ (a b : List ℕ). a ++ b) p (write_read ws (drop w bs) (omega arith) (each_drop w all)) ∙ sym (take-add w (sum ws) bs)

pub write_are : (ws xs : List ℕ) → Each IsByte (write ws xs)
write_are [] xs = nil
write_are (w ∷ ws) [] = nil
write_are (w ∷ ws) (x ∷ xs) = each_append (bytes_are w x) (write_are ws xs)
