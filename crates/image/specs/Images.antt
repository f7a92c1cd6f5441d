-- Images laid out as their trailers say: the checks of that, and the parts.
-- Assumes nothing.
use Rattle.std.specs.Prelude.{List, ℕ, ◌+◌, ◌*◌, ◌∷◌, ltb, length, take}
use Rattle.model.specs.Refusals.{Check, refuse}
use Rattle.model.specs.Relations.{Net}
use Rattle.model.specs.Image.{edition_1, trailer_of, net_of, records_of}
use Rattle.model.specs.declared.Refusal.TheVariants.{ShortImage}
use Rattle.image.specs.declared.laid.LaidImage.{LaidImage}
use Rattle.image.specs.Trailers.{trailer_as, trailer_checks}

-- the checks of loading up to the layout
abbrev pub layout_checks : List ℕ → List Check
layout_checks img = refuse ShortImage (ltb (length img) 8) ∷ trailer_checks img (trailer_of edition_1 img)

-- the net that the image names, the bytes of its capacities and relations, and its record section
abbrev pub net_in : LaidImage → Net
net_in laid = net_of edition_1 laid.bytes.now (trailer_as laid.trailer)

abbrev pub list_in : LaidImage → List ℕ
list_in laid = take (laid.trailer.contexts + 3 * laid.trailer.relations) laid.bytes.now

abbrev pub records_in : LaidImage → List ℕ
records_in laid = records_of edition_1 laid.bytes.now (trailer_as laid.trailer)
