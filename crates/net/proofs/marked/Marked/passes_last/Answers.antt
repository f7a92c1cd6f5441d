use mathlib.Core.Bool.{Bool, ◌&&◌, ◌||◌, not}
use mathlib.Core.Path.{◌≡◌, ap, ◌∙◌}
use Rattle.sets.specs.Sets.{members, minus, within, apart}
use Rattle.sets.proofs.Laws.{below_cong, contained}
use Rattle.net.specs.Tables.{arcs_in}
use Rattle.net.specs.Walks.{passes_last}
use Rattle.net.proofs.marked.Marked.passes_last.Goals as goal

pub returns : goal.returns
unfolding passes_last
returns c =
    let a = arcs_in c.args.row.now in
    let gained = rw (c.gives_context.ensures, c.takes_context.ensures) at c.difference-gained.ensures in
    let taken : c.is_subset.result ≡ within 64 (members a.takes_pr) (members c.args.self.now.pr) = rw c.takes_pr.ensures at c.is_subset.ensures in
    let free : c.is_disjoint.result ≡ apart 64 (members a.inhib_pr) (members c.args.self.now.pr) = rw c.inhib_pr.ensures at c.is_disjoint.ensures in
    let e : c.is_subset-2.result ≡ within 64 (minus (members a.gives_context) (members a.takes_context)) (members c.args.spare) =
    c.is_subset-2.ensures
    ∙ below_cong 64 _ _ (λ j l. ap (λ (x : Bool). not x || members c.args.spare j) (contained 64 (minus (members a.gives_context) (members a.takes_context)) gained j l)) in
    λ i. taken i && free i && e i
