use Rattle.engine.proofs.States.{fresh_state}
use Rattle.engine.proofs.engine.Engine.begin.Goals as goal

pub returns : goal.returns
returns c =
    let e = c.args.self.now in
    fresh_state e.net e.capacities c.clear.new.self c.default-self.result c.clear.ensures c.default-self.ensures
