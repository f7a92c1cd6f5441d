use Rattle.std.proofs.Common.{rules, refl}
use Rattle.model.specs.Transitions.{transitions_of, extra_transitions}
use Rattle.net.proofs.net.Net.clear.Goals as goal

pub invariant_of-self : goal.invariant_of-self
unfolding transitions_of extra_transitions
invariant_of-self c = record { few_contexts = search rules; few_relations = search rules; fits = refl; stores = c.clear.ensures }
