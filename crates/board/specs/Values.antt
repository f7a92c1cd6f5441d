-- What the functions for other programs answer, as one number, and what the output then holds.
-- Assumes nothing.
use Rattle.std.specs.Prelude.{ℕ, cond, List}
use Rattle.model.specs.Refusals.{is_granted, verdict_number}
use Rattle.model.specs.Image.{edition_1, compose}
use Rattle.image.specs.Listing

-- the answer, and the output after it
pub record Value : Type 0 where
  pub value : ℕ
  pub output : List ℕ

-- Composing: the image's length, or the refusal's number.
unfoldable pub composed : (capacities relations output : List ℕ) → Value
composed caps bs out =
    let c = compose edition_1 caps bs out in
    record { value = cond (is_granted c.verdict) c.written (verdict_number c.verdict); output = c.output }

-- Listing: the number of bytes written, or the refusal's number.
unfoldable pub listed : (image output : List ℕ) → Value
listed img out =
    let l = Listing.listed img out in
    record { value = cond (is_granted l.verdict) l.written (verdict_number l.verdict); output = l.output }
