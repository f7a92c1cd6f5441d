use Rattle.std.proofs.Common.{ap, ◌∙◌}
use Rattle.model.specs.Image.{edition_1, trailer_bytes}
use Rattle.relations.specs.Lists.{net_of}
use Rattle.image.proofs.Givens.{image_parts}
use Rattle.image.proofs.composing.write_image.Goals as goal

pub returns : goal.returns
returns c =
    image_parts (net_of c.args.list.now)
    (c.copy.ensures ∙ c.capacities.ensures)
    (c.copy-2.ensures ∙ c.requires.relations)
    c.write_records.ensures
    (c.copy_from_slice.ensures.after ∙ c.to_bytes.ensures ∙ ap (trailer_bytes edition_1) c.requires.trailer)
