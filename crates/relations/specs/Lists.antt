-- The net of a list whose relations fit, when a list is one, and the checks of those from which images are made.
-- Assumes nothing.
use Rattle.std.specs.Prelude.{ℕ, ◌/◌, ◌%◌, Bool, ◌||◌, not, eqb, List, ◌∷◌, length}
use Rattle.model.specs.Sets.{any}
use Rattle.model.specs.Refusals.{Check, refuse}
use Rattle.model.specs.Relations.{Net, misfit}
use Rattle.model.specs.Image.{edition_1, relation_size, bad_sizes, given_net, net_checks}
use Rattle.model.specs.declared.Refusal.TheVariants.{WrongSizes}
use Rattle.relations.specs.Reading.{relations_of}
use Rattle.relations.specs.Sizes.{exceeds}
use Rattle.relations.specs.declared.list.FittingList.{FittingList}

-- the net of these capacities and of these relations, three bytes each
abbrev pub net_with : (capacities : List ℕ) → List (List ℕ) → Net
net_with caps triples = record { caps = caps; rels = relations_of triples }

-- these are not too many, and each relation fits
abbrev pub is_fitting : (capacities : List ℕ) → List (List ℕ) → Bool
is_fitting caps triples = not (exceeds (length caps) (length triples) || any (misfit (length caps)) (relations_of triples))

-- the net that the list makes
abbrev pub net_of : FittingList → Net
net_of list = net_with list.capacities.now list.relations.now

-- the checks of capacities and relations that a net is to be made of: its sizes, then those that
-- composing and loading share
abbrev pub given_checks : (capacities relations : List ℕ) → List Check
given_checks caps bs =
    refuse WrongSizes
    (bad_sizes edition_1 (length caps) (length bs / relation_size edition_1) || not (eqb (length bs % relation_size edition_1) 0))
    ∷ net_checks (given_net edition_1 caps bs)
