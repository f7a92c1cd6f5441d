-- Where one of the contexts' own transitions is ready, the first of these fires; otherwise one of the others, by priority.
use Rattle.std.proofs.Common.{◌≡◌, Some, rules}
use Rattle.std.specs.Option.{MatchOption}
use Rattle.net.specs.Walks.{PrefersUrgent}
use Rattle.net.proofs.Choosing.{chooses_first}
use Rattle.net.proofs.table.Table.next.Goals as goal

pub returns : goal.returns
returns c =
    let table = c.args.self.now in
    let then : MatchOption c.first_own.result (PrefersUrgent c.args.contexts table c.args.marked.now c.args.spare c.or_else.result) (λ i. c.or_else.result ≡ Some i) =
    search (rules, c.or_else.ensures) in
    chooses_first c.requires table c.args.marked.now c.args.spare c.first_own.result c.or_else.result c.first_own.ensures then
