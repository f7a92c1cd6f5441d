-- docs/MACHINE.md, "Relations": contexts, relations, nets, and the faults that refusals 5, 6 and 7 name.
-- Assumes nothing.
use Rattle.std.specs.Prelude.{ℕ, Bool, false, ◌&&◌, ◌||◌, List, [], ◌∷◌, eqb, ltb, leb, length, get_or}
use Rattle.model.specs.Sets.{Set, any}
use Rattle.model.specs.declared.Relation.{Relation}

-- The kinds of relation, by their byte. An exclusion holds both ways; the others run from a to b.
abbrev pub excludes : ℕ
excludes = 1

abbrev pub causes : ℕ
causes = 2

abbrev pub implies : ℕ
implies = 3

abbrev pub requires : ℕ
requires = 4

abbrev pub suggests : ℕ
suggests = 5

-- the largest byte that is a kind
abbrev pub last_kind : ℕ
last_kind = suggests

-- When two relations say the same: they agree in all three parts, or both are exclusions with their ends exchanged.
unfoldable pub same : Relation → Relation → Bool
same r s =
    (eqb r.kind s.kind && eqb r.a s.a && eqb r.b s.b)
    || (eqb r.kind excludes && eqb s.kind excludes && eqb r.a s.b && eqb r.b s.a)

-- What a net is composed from: the capacity of each context, in the order of their numbers, and the relations in theirs. The limits on
-- both are a format's (Image).
pub record Net : Type 0 where
  pub caps : List ℕ
  pub rels : List Relation

-- n, the number of contexts
abbrev pub size : Net → ℕ
size net = length net.caps

-- r, the number of relations
abbrev pub relation_count : Net → ℕ
relation_count net = length net.rels

-- the capacity of context c
abbrev pub capacity : Net → ℕ → ℕ
capacity net c = get_or net.caps c 0

-- the net of a refused load: no context, so no request can name one
abbrev pub empty_net : Net
empty_net = record { caps = []; rels = [] }

-- what refusal 5 looks for
unfoldable pub has_zero : List ℕ → Bool
has_zero caps = any (λ c. eqb c 0) caps

-- what refusal 6 looks for in a relation, where there are n contexts
unfoldable pub misfit : ℕ → Relation → Bool
misfit n r =
    ltb r.kind excludes || ltb last_kind r.kind || leb n r.a || leb n r.b || eqb r.a r.b

-- what refusal 7 looks for: a relation of the list that is the same as one before it; `earlier` are those before the list
unfoldable pub repeats_after : List Relation → List Relation → Bool
repeats_after earlier [] = false
repeats_after earlier (r ∷ rs) = any (same r) earlier || repeats_after (r ∷ earlier) rs

abbrev pub repeats : List Relation → Bool
repeats = repeats_after []

-- the relation has this kind and runs from a to b
unfoldable pub matches : ℕ → ℕ → ℕ → Relation → Bool
matches k a b r = eqb r.kind k && eqb r.a a && eqb r.b b

-- the contexts b to which a relation of this kind runs from a. A set, so that a relation stated twice adds nothing.
unfoldable pub related : List Relation → ℕ → ℕ → Set
related rels k a b = any (matches k a b) rels

-- the other ends of a's exclusions, whichever end a is
unfoldable pub excluded : List Relation → ℕ → Set
excluded rels a b = related rels excludes a b || related rels excludes b a
