-- The trailer that is read, as the model has it; its checks, and what it says once they pass.
-- Assumes nothing.
use Rattle.std.specs.Prelude.{ℕ, ◌+◌, ◌*◌, ◌≤◌, ◌≡◌, List, [], ◌∷◌, not, eqb, length}
use Rattle.model.specs.Refusals.{Check, refuse}
use Rattle.model.specs.Relations.{Net, size, relation_count}
use Rattle.model.specs.Image
use Rattle.model.specs.Image.{edition_1, transition_count, trailer, bad_sizes, bad_layout}
use Rattle.model.specs.declared.Refusal.TheVariants.{OtherEdition, WrongSizes, WrongLayout}
use Rattle.image.specs.declared.trailer.Trailer.{Trailer}

-- edition 1 has no padding
abbrev pub trailer_as : Trailer → Image.Trailer
trailer_as e =
    record {
      to_relations = e.to_relations;
      to_records = e.to_records;
      n = e.contexts;
      r = e.relations;
      t = e.transitions;
      padding = 0;
      edition = e.edition;
    }

-- the trailer that a net's image must have
abbrev pub trailer_for : Net → Image.Trailer
trailer_for net = trailer edition_1 (size net) (relation_count net) (transition_count net)

-- the checks of loading that look at what the trailer says
abbrev pub trailer_checks : List ℕ → Image.Trailer → List Check
trailer_checks img e =
    refuse OtherEdition (not (eqb e.edition 1))
    ∷ refuse WrongSizes (bad_sizes edition_1 e.n e.r)
    ∷ refuse WrongLayout (bad_layout edition_1 img e)
    ∷ []

-- what an image has that these checks do not refuse: its parts stand where the trailer says
pub record LaidOut (img : List ℕ) (e : Image.Trailer) : Type 0 where
  pub contexts : e.n ≤ 48
  pub relations : e.r ≤ 96
  pub to_relations : e.to_relations ≡ 3 * e.r + 49 * e.t
  pub to_records : e.to_records ≡ 49 * e.t
  pub whole : length img ≡ e.n + 3 * e.r + 49 * e.t + 8
