-- The model's nets that a composed net stands for.
-- Assumes nothing.
use Rattle.std.proofs.Common.{ℕ, ◌*◌, ◌<◌, ◌≤◌, false, ◌≡◌, List, length, get_or, refl, sym, subst, arith, length-append}
use Rattle.std.proofs.lemmas.List.{length-take-le}
use Rattle.model.specs.Sets.{any, concat_map, range}
use Rattle.model.specs.Relations.{size, misfit}
use Rattle.model.specs.Transitions.{context_transitions, extra_transitions, transitions, transitions_of}
use Rattle.model.specs.Claims.{Fits}
use Rattle.model.proofs.Sizes.{length_concat_map, length_range}
use Rattle.transitions.specs.Arcs.{Holds}
use Rattle.net.specs.Tables.{blank, Stores}
use Rattle.net.specs.Nets.{rels_of, net_with, transitions_in, arcs_of}
use Rattle.net.specs.declared.net.Net.{Net}

module _ (net : Net) where
  -- the words of a transition are those of the model's
  pub holds_at : (i : ℕ) → i < length (transitions_in net) → Holds (arcs_of net i) (get_or (transitions_in net) i blank)
  holds_at i h = net.stores.at i (omega (arith, net.stores.count))

  -- two for each context, and the others
  pub own_count : 2 * net.contexts ≤ net.table.count
  unfolding transitions_of context_transitions
  own_count =
      let rels = rels_of net in
      let own = context_transitions rels in
      omega (
        arith,
        net.stores.count,
        length-append (concat_map own (range 0 net.contexts)) (extra_transitions rels),
        length_concat_map own 2 (λ c. refl) (range 0 net.contexts),
        length_range 0 net.contexts,
      )

  module _ (capacities : List ℕ) (long : net.contexts ≤ length capacities) where
    pub size_with : size (net_with net capacities) ≡ net.contexts
    size_with = length-take-le net.contexts capacities long

    pub fits_with : Fits (net_with net capacities)
    fits_with = subst (λ (k : ℕ). any (misfit k) (rels_of net) ≡ false) (sym size_with) net.fits

    pub stores_with : Stores net.table (transitions (net_with net capacities))
    stores_with = subst (λ (k : ℕ). Stores net.table (transitions_of k (rels_of net))) (sym size_with) net.stores
