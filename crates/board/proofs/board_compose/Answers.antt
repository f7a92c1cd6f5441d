use Rattle.std.proofs.Common.{refl, rules}
use Rattle.board.proofs.Values.{composed_length, composed_refusal}
use Rattle.board.proofs.board_compose.Goals as goal

pub returns-in-Ok : goal.returns-in-Ok
returns-in-Ok c = composed_length _ _ _ _ _ c.compose.ensures.output _ refl c.in-Ok.ensures.verdict c.in-Ok.ensures.written

pub returns-in-Err : goal.returns-in-Err
returns-in-Err c = composed_refusal _ _ _ _ _ c.compose.ensures.output _ c.in-Err.refused refl c.in-Err.ensures.verdict (search rules)
