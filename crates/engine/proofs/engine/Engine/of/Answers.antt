use Rattle.engine.proofs.Snapshots.{stands_for_none}
use Rattle.engine.proofs.engine.Engine.of.Goals as goal

pub returns-in-None : goal.returns-in-None
returns-in-None c settled = stands_for_none c.args.snapshot.now c.in-None.ensures.none c.empty.result c.empty.ensures settled
