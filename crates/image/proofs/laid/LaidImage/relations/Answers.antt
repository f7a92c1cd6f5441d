use Rattle.image.specs.Trailers.{trailer_as}
use Rattle.image.proofs.Layouts.{relations_are}
use Rattle.image.proofs.laid.LaidImage.relations.Goals as goal

pub returns-clause-net : goal.returns-clause-net
returns-clause-net c =
    let l = c.args.self.now in
    rw (c.start.ensures, c.start-2.ensures) (relations_are l.bytes.now (trailer_as l.trailer) l.laid)
