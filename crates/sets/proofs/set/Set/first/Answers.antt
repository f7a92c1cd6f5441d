use Rattle.std.proofs.Common.{rules}
use Rattle.sets.proofs.Least.{least_64}
use Rattle.sets.proofs.set.Set.first.Goals as goal

pub returns-in_default-clause-some : goal.returns-in_default-clause-some
returns-in_default-clause-some c = rw (← c.word.ensures) (least_64 c.word.result (search rules) (search rules))
