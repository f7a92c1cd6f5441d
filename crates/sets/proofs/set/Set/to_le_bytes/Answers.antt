use Rattle.std.proofs.Common.{rules}
use Rattle.sets.proofs.Laws.{bytes_of_word}
use Rattle.sets.proofs.set.Set.to_le_bytes.Goals as goal

pub returns-clause-bytes : goal.returns-clause-bytes
returns-clause-bytes c = rw (c.to_le_bytes.ensures, ← c.word.ensures) (bytes_of_word c.word.result (search rules))
