use Rattle.std.proofs.Common.{◌≡◌, false}
use Rattle.model.specs.Image.{edition_1, bad_sizes, bad_layout}
use Rattle.image.specs.Trailers.{trailer_as}
use Rattle.image.proofs.Layouts.{laid_out}
use Rattle.image.proofs.trailer.Trailer.check.Goals as goal

pub returns-clause-laid : goal.returns-clause-laid
returns-clause-laid c =
    let e = trailer_as c.args.self in
    let sizes : bad_sizes edition_1 e.n e.r ≡ false = cc in
    let layout : bad_layout edition_1 c.args.image.now e ≡ false = cc in
    laid_out c.args.image.now e sizes layout
