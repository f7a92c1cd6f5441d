-- The line that tells what a load gave: five numbers in decimal.
-- Assumes nothing.
use Rattle.std.specs.Prelude.{ℕ, List, [], ◌∷◌, ◌++◌, length, decimal}
use Rattle.model.specs.Sets.{concat_map}
use Rattle.model.specs.Refusals.{verdict_number}
use Rattle.model.specs.Relations.{Net, size, relation_count}
use Rattle.model.specs.declared.Relation.{Relation}
use Rattle.model.specs.declared.Verdict.{Verdict}
use Rattle.listing.specs.Hash.{hashed}

-- the three bytes of a relation
abbrev pub triple : Relation → List ℕ
triple r = r.kind ∷ r.a ∷ r.b ∷ []

-- the hash of a net's capacities and relations, and of the records
abbrev pub load_hash : Net → List ℕ → ℕ
load_hash net records = hashed (hashed (hashed 0 net.caps) (concat_map triple net.rels)) records

-- a verdict's number, contexts, relations, the length of the records, and the hash, parted by one blank
abbrev pub numbered_text : ℕ → Net → List ℕ → List ℕ
numbered_text number net records =
    decimal number
    ++ (32 ∷ (decimal (size net)
    ++ (32 ∷ (decimal (relation_count net)
    ++ (32 ∷ (decimal (length records)
    ++ (32 ∷ (decimal (load_hash net records)
    ++ (10 ∷ [])))))))))

-- the same of a verdict
abbrev pub load_text : Verdict → Net → List ℕ → List ℕ
load_text verdict = numbered_text (verdict_number verdict)
