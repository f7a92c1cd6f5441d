use Rattle.std.proofs.Common.{◌∙◌, length, rules}
use Rattle.std.proofs.lemmas.List.{drop-replicate}
use Rattle.std.proofs.lemmas.Slice.{drop-append-drop}
use Rattle.net.proofs.padding.padded.Goals as goal

pub returns-clause-fill : goal.returns-clause-fill
returns-clause-fill g c =
    let k = length c.args.items.now in
    drop-append-drop k _ _ k (search rules) (search rules) ∙ drop-replicate k g.row.N c.args.fill
