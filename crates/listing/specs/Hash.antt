-- The hash by which listings are compared with those of `reference`.
-- Assumes nothing.
use Rattle.std.specs.Prelude.{ℕ, ◌+◌, ◌*◌, ◌%◌, List}
use Rattle.std.specs.List.{fold}

-- a prime below 2 ^ 32
abbrev pub modulus : ℕ
modulus = 4294967291

-- one byte more
abbrev pub folded : ℕ → ℕ → ℕ
folded h b = (h % modulus * 257 + b + 1) % modulus

-- a list of bytes
abbrev pub hashed : ℕ → List ℕ → ℕ
hashed = fold folded
