use Rattle.std.proofs.Common.{sym}
use Rattle.model.specs.Image.{edition_1}
use Rattle.model.proofs.Verdicts.{load_refused}
use Rattle.image.proofs.loading.records.Goals as goal

pub returns-in-Err : goal.returns-in-Err
returns-in-Err c =
    sym (load_refused edition_1 c.args.image.now c.in-Err.field-0 (sym c.in-Err.ensures.verdict)).no_part
