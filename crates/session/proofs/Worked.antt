-- The examples hold, by computing.
-- Assumes nothing.
use mathlib.Core.Path.{refl}
use Rattle.model.specs.Sets.{Each, nil, cons}
use Rattle.session.specs.Decimals.{spelled, decimal}
use Rattle.session.specs.Calls.{call_text, askable, said}
use Rattle.session.specs.Examples.{Correct, spoken, unspoken}

pub spoken_hold : Each Correct spoken
unfolding spoken spelled decimal call_text askable said
spoken_hold = cons refl (cons refl (cons refl (cons refl (cons refl (cons refl nil)))))

pub unspoken_hold : Each Correct unspoken
unfolding unspoken spelled decimal call_text askable said
unspoken_hold = cons refl (cons refl (cons refl (cons refl (cons refl (cons refl (cons refl (cons refl (cons refl (cons refl (cons refl (cons refl (cons refl (cons refl (cons refl (cons refl (cons refl nil))))))))))))))))
