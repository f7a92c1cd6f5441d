use Rattle.std.proofs.Common.{◌≡◌, refl, rules}
use Rattle.model.specs.Transitions.{asks_off, forced}
use Rattle.sets.proofs.Laws.{removed}
use Rattle.relations.specs.Lists.{net_of}
use Rattle.transitions.specs.declared.priority.Priority.TheVariants.{Urgent}
use Rattle.transitions.proofs.Words.{no_arcs, empty_in}
use Rattle.transitions.proofs.roles.forced.Goals as goal

pub returns : goal.returns
unfolding forced
returns c =
    let none : c.default.result ≡ no_arcs = search rules in
    let gives = removed 64 (asks_off (net_of c.args.list.now).rels c.args.link.a) c.asked_off-asked.ensures c.args.link.b c.remove.ensures in
    λ i. record {
      priority = Urgent;
      takes_context = c.singleton.ensures i;
      takes_pr = empty_in (λ a. a.takes_pr) refl none i;
      takes_not = empty_in (λ a. a.takes_not) refl none i;
      gives_context = empty_in (λ a. a.gives_context) refl none i;
      gives_pr = empty_in (λ a. a.gives_pr) refl none i;
      gives_not = gives i;
      inhib_context = c.singleton-2.ensures i;
      inhib_pr = empty_in (λ a. a.inhib_pr) refl none i;
    }
