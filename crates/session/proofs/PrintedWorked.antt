-- The examples hold, by computing.
-- Assumes nothing.
use mathlib.Core.Path.{refl}
use Rattle.model.specs.Sets.{Each, nil, cons}
use Rattle.session.specs.Decimals.{spelled, decimal}
use Rattle.session.specs.Calls.{call_text}
use Rattle.session.specs.Answers.{context_text, contexts_text, answer_text}
use Rattle.session.specs.Printed.{Correct, printed}

pub printed_hold : Each Correct printed
unfolding printed spelled decimal call_text context_text contexts_text answer_text
printed_hold = cons refl (cons refl (cons refl (cons refl (cons refl (cons refl (cons refl (cons refl (cons refl nil))))))))
