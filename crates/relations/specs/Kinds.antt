-- The bytes of kinds.
-- Assumes nothing.
use Rattle.std.specs.Prelude.{◌≡◌, ℕ, ◌<◌, ◌⊎◌, Result, MatchResult}
use Rattle.model.specs.Relations.{excludes, causes, implies, requires, suggests, last_kind}
use Rattle.relations.specs.declared.kind.Kind.{Kind}
use Rattle.relations.specs.declared.kind.Kind.TheVariants.{Excludes, Causes, Implies, Requires, Suggests}
use Rattle.relations.specs.declared.kind.UnknownKind.{UnknownKind}

-- the byte that stands for a kind
abbrev pub kind_number : Kind → ℕ
kind_number Excludes = excludes
kind_number Causes = causes
kind_number Implies = implies
kind_number Requires = requires
kind_number Suggests = suggests

-- a byte that is no kind
abbrev pub IsNoKind : ℕ → Type 0
IsNoKind byte = (byte < excludes) ⊎ (last_kind < byte)

-- the result is the kind with this byte, or an error with a byte that no kind has
abbrev pub Decodes : ℕ → Result Kind UnknownKind → Type 0
Decodes byte r = MatchResult r (λ kind. kind_number kind ≡ byte) (λ e. (e.0 ≡ byte) × IsNoKind byte)
