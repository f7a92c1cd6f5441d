use native.Mathlib.Omega.{arith}
use Rattle.session.proofs.Texts.{length_numbers}
use Rattle.session.proofs.text.Text.push_context.Goals as goal

pub returns-clause-short : goal.returns-clause-short
returns-clause-short c =
    length_numbers c.args.self.now c.push_number.new.self c.push_number-2.new.self c.args.c c.from.result 32 58 (omega arith) (omega (arith, c.from.ensures))
    c.push_number.ensures.text c.push_number-2.ensures.text
