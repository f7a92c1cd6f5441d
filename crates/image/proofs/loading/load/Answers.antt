use Rattle.std.proofs.Common.{sym}
use Rattle.model.specs.Image.{edition_1}
use Rattle.model.proofs.Verdicts.{load_refused}
use Rattle.image.proofs.loading.load.Goals as goal

pub returns-in-Err-clause-part : goal.returns-in-Err-clause-part
returns-in-Err-clause-part c = sym (load_refused edition_1 c.args.image.now c.in-Err.refusal (sym c.in-Err.ensures.verdict)).no_part
