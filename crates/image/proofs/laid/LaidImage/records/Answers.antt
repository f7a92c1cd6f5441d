use Rattle.image.specs.Trailers.{trailer_as}
use Rattle.image.proofs.Layouts.{records_are}
use Rattle.image.proofs.laid.LaidImage.records.Goals as goal

pub returns-clause-part : goal.returns-clause-part
returns-clause-part c =
    let l = c.args.self.now in
    rw (c.start-start.ensures, c.from.ensures) (records_are l.bytes.now (trailer_as l.trailer) l.laid)
