use Rattle.std.proofs.Common.{refl, rules}
use Rattle.board.proofs.Values.{listed_length, listed_refusal}
use Rattle.board.proofs.board_list.Goals as goal

pub returns-in-Ok-Some : goal.returns-in-Ok-Some
returns-in-Ok-Some c = listed_length _ _ _ _ c.list.ensures.output _ refl c.in-Ok-Some.ensures.verdict (rw c.in-Ok-Some.field-0-is at c.in-Ok-Some.ensures.written)

pub returns-in-Ok-None : goal.returns-in-Ok-None
returns-in-Ok-None c = listed_length _ _ _ _ c.list.ensures.output _ refl c.in-Ok-None.ensures.verdict (rw c.in-Ok-None.field-0-is at c.in-Ok-None.ensures.written)

pub returns-in-Err : goal.returns-in-Err
returns-in-Err c = listed_refusal _ _ _ _ c.list.ensures.output _ c.in-Err.refusal refl c.in-Err.ensures.verdict (search rules)
