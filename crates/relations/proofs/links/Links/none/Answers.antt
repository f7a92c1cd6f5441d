use Rattle.sets.proofs.Laws.{zero_holds}
use Rattle.relations.proofs.Linking.{linked_none}
use Rattle.relations.proofs.links.Links.none.Goals as goal

pub returns : goal.returns
returns c = linked_none 0 (zero_holds 64)
