use Rattle.std.proofs.Common.{rules}
use Rattle.step.proofs.Gathering.{four_flags}
use Rattle.step.proofs.beginning.four.Goals as goal

pub returns : goal.returns
returns c =
    rw (c.from.ensures, c.from_le_bytes-apart.ensures) (four_flags c.args.flags (search rules) c.requires)
