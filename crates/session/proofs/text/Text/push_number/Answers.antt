use mathlib.Core.Path.{◌≡◌, ◌∙◌}
use mathlib.Core.List.{append_assoc}
use borrow.Author.Rules.{rules}
use Rattle.session.specs.Decimals.{decimal}
use Rattle.session.proofs.Texts.{printed_decimal}
use Rattle.session.proofs.text.Text.push_number.Goals as goal

pub returns-clause-text : goal.returns-clause-text
returns-clause-text c =
    let digits : c.format.result.now ≡ decimal c.args.number = c.format.ensures.text ∙ printed_decimal c.args.number (search rules) in
    rw (c.push_str-2.ensures, digits, c.push_str.ensures) (append_assoc c.args.self.now c.args.sign.now (decimal c.args.number))
