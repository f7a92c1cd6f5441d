use Rattle.image.specs.Trailers.{trailer_as}
use Rattle.image.proofs.Layouts.{sizes_are}
use Rattle.image.proofs.laid.LaidImage.sizes.Goals as goal

pub returns : goal.returns
returns c =
    let l = c.args.self.now in
    sizes_are l.bytes.now (trailer_as l.trailer) l.laid
