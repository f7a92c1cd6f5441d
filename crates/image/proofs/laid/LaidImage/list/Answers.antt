use Rattle.image.specs.Trailers.{trailer_as}
use Rattle.image.proofs.Layouts.{list_found}
use Rattle.image.proofs.laid.LaidImage.list.Goals as goal

pub returns : goal.returns
returns c =
    let l = c.args.self.now in
    rw c.start.ensures (list_found l.bytes.now (trailer_as l.trailer) l.laid)
