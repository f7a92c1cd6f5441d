-- Where the bytes up to one more are no number's text, no more bytes make one; else all of them are the text of the last number.
use Rattle.std.specs.Prelude.{◌+◌}
use native.Mathlib.Omega.{arith}
use Rattle.session.proofs.Spelling.{reads_none_at, reads_whole}
use Rattle.session.proofs.line.number.Goals as goal

pub returns-in_err-number-2 : goal.returns-in_err-number-2
returns-in_err-number-2 c =
    let l = c.loop-b in
    let split = c.in_ok-first in
    rw c.from_residual-in_err-number-2.ensures
    (reads_none_at l.number l.b-index split.first.now split.rest.now c.args.digits.now split.ensures.cases.0 (omega arith) l.invariant.text c.in_err-number-2.ensures)

pub returns : goal.returns
returns c =
    let l = c.loop-b in
    reads_whole l.number (l.b-index + 1) c.args.digits.now l.invariant.small l.invariant.text (omega (arith, c.in_ok-first.ensures.cases.1))
