use Rattle.std.proofs.Common.{◌≡◌, refl, rules}
use Rattle.model.specs.Relations.{related, requires}
use Rattle.model.specs.Transitions.{act}
use Rattle.relations.specs.Links.{ends}
use Rattle.relations.specs.Lists.{net_of}
use Rattle.transitions.specs.declared.priority.Priority.TheVariants.{Urgent}
use Rattle.transitions.proofs.Words.{no_arcs, empty_in, given_too}
use Rattle.transitions.proofs.roles.act.Goals as goal

-- what the context requires, with the context itself, is given: the set's two parts in the other order
pub returns : goal.returns
unfolding act ends
returns c =
    let none : c.default.result ≡ no_arcs = search rules in
    let gives = given_too (related (net_of c.args.list.now).rels requires c.args.context) c.linked-needed.ensures c.args.context c.insert.ensures in
    λ i. record {
      priority = Urgent;
      takes_context = c.linked-needed.ensures i;
      takes_pr = c.singleton.ensures i;
      takes_not = empty_in (λ a. a.takes_not) refl none i;
      gives_context = gives i;
      gives_pr = c.asked_on.ensures i;
      gives_not = empty_in (λ a. a.gives_not) refl none i;
      inhib_context = c.linked.ensures i;
      inhib_pr = empty_in (λ a. a.inhib_pr) refl none i;
    }
