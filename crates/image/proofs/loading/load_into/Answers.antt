use Rattle.std.proofs.Common.{sym, ap, ◌∙◌}
use Rattle.model.specs.Image.{edition_1}
use Rattle.model.specs.Machine.{fresh}
use Rattle.model.specs.Relations.{Net}
use Rattle.model.proofs.Verdicts.{load_refused}
use Rattle.relations.specs.Lists.{net_of}
use Rattle.image.proofs.loading.load_into.Goals as goal

pub returns-in-Ok-clause-engine : goal.returns-in-Ok-clause-engine
returns-in-Ok-clause-engine c =
    c.set.ensures ∙ ap (λ (n : Net). fresh n) (ap net_of c.fitting.ensures ∙ c.in-Ok.ensures.net)

pub returns-in-Err-clause-engine : goal.returns-in-Err-clause-engine
returns-in-Err-clause-engine c =
    c.clear.ensures ∙ ap fresh (sym (load_refused edition_1 c.args.image.now c.in-Err.refusal (sym c.in-Err.ensures.verdict)).no_net)
