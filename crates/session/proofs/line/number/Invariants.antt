-- The loop's invariant: the bytes so far are the number's text.
use Rattle.std.specs.Prelude.{◌≡◌, ◌+◌, ◌<◌, take}
use Rattle.session.specs.Decimals.{decimal}
use Rattle.session.proofs.line.number.Given as goal

abbrev pub invariant-loop-b : goal.invariant-loop-b
invariant-loop-b l = record { small : l.number < 256; text : decimal l.number ≡ take (l.b-index + 1) l.digits }
