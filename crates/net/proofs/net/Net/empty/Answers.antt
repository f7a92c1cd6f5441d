use Rattle.std.proofs.Common.{rules, refl}
use Rattle.model.specs.Transitions.{transitions_of, extra_transitions}
use Rattle.net.proofs.net.Net.empty.Goals as goal

pub invariant_of-result : goal.invariant_of-result
unfolding transitions_of extra_transitions
invariant_of-result c = record { few_contexts = search rules; few_relations = search rules; fits = refl; stores = c.new.ensures }
