-- The list that an accepted image stands for, as bytes: what `list` writes.
-- Assumes nothing.
use Rattle.std.specs.Prelude.{ℕ, ◌&&◌, cond, List, ◌∷◌, ◌++◌, leb, length, drop}
use Rattle.model.specs.Sets.{concat_map}
use Rattle.model.specs.Refusals.{is_granted}
use Rattle.model.specs.Relations.{Net, size, relation_count}
use Rattle.model.specs.Image.{edition_1, relation_bytes, load}
use Rattle.model.specs.declared.Verdict.{Verdict}

-- a net's list in bytes: n and r, then the capacities, then the relations
unfoldable pub listing : Net → List ℕ
listing net = size net ∷ relation_count net ∷ (net.caps ++ concat_map (relation_bytes edition_1) net.rels)

-- the verdict of loading, the bytes written, and what the output then holds
pub record Listed : Type 0 where
  pub verdict : Verdict
  pub written : ℕ
  pub output : List ℕ

-- The list is written whole or not at all: nothing is written where loading refuses the image, or where the output has no room for the list.
unfoldable pub listed : (image output : List ℕ) → Listed
listed img out =
    let m = load edition_1 img in
    let l = listing m.net in
    let whole = is_granted m.verdict && leb (length l) (length out) in
    record { verdict = m.verdict; written = cond whole (length l) 0; output = cond whole (l ++ drop (length l) out) out }
