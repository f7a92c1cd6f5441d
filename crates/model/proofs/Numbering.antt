-- The numbers of the transitions: act(c) is 2c, deac(c) is 2c + 1, and the extra transitions follow from 2n on.
-- Assumes nothing.
use Prim.Native.Nat.{ℕ, zero, suc, ◌+◌, ◌*◌, ◌<◌}
use native.Mathlib.Nat.{zero-add}
use native.Mathlib.Omega.{arith}
use mathlib.Core.Path.{◌≡◌, refl, ap, ◌∙◌}
use mathlib.Core.Option.{some}
use mathlib.Core.List.{List, ◌++◌}
use lib.ListN.{drop, get_elem?}
use lib.Seq.{drop_at}
use Rattle.model.specs.Sets.{concat_map, range}
use Rattle.model.specs.Relations.{Net, size}
use Rattle.model.specs.declared.Relation.{Relation}
use Rattle.model.specs.Transitions.{Transition, act, deac, context_transitions, extra_transitions, transitions_of, transitions}
use Rattle.model.proofs.Sizes.{length_concat_map, length_range}

-- the transitions of the contexts from i on, with more behind them
numbered : (rels : List Relation) (more : List Transition) (i n c : ℕ) → c < n
    → (get_elem? (concat_map (context_transitions rels) (range i n) ++ more) (2 * c) ≡ some (act rels (i + c)))
    × (get_elem? (concat_map (context_transitions rels) (range i n) ++ more) (2 * c + 1) ≡ some (deac rels (i + c)))
unfolding context_transitions
numbered rels more i zero c h = absurd (omega arith)
numbered rels more i (suc n) zero h =
    let e : i ≡ i + 0 = omega arith in
    (ap (λ (x : ℕ). some (act rels x)) e, ap (λ (x : ℕ). some (deac rels x)) e)
numbered rels more i (suc n) (suc c) h =
    let l = concat_map (context_transitions rels) (range i (suc n)) ++ more in
    let p : 2 * suc c ≡ suc (suc (2 * c)) = omega arith in
    let q : 2 * suc c + 1 ≡ suc (suc (2 * c + 1)) = omega arith in
    let e : suc i + c ≡ i + suc c = omega arith in
    let k = numbered rels more (suc i) n c (omega arith) in (
      ap (get_elem? l) p ∙ k.0 ∙ ap (λ (x : ℕ). some (act rels x)) e,
      ap (get_elem? l) q ∙ k.1 ∙ ap (λ (x : ℕ). some (deac rels x)) e,
    )

module _ (net : Net) where
  -- act(c) has number 2c
  pub act_number : (c : ℕ) → c < size net → get_elem? (transitions net) (2 * c) ≡ some (act net.rels c)
  unfolding transitions_of
  act_number c h = (numbered net.rels (extra_transitions net.rels) 0 (size net) c h).0 ∙ ap (λ (x : ℕ). some (act net.rels x)) (zero-add c)

  -- deac(c) has number 2c + 1
  pub deac_number : (c : ℕ) → c < size net → get_elem? (transitions net) (2 * c + 1) ≡ some (deac net.rels c)
  unfolding transitions_of
  deac_number c h = (numbered net.rels (extra_transitions net.rels) 0 (size net) c h).1 ∙ ap (λ (x : ℕ). some (deac net.rels x)) (zero-add c)

  -- the extra transitions stand from 2n on, as the relations do
  pub extras_number : drop (2 * size net) (transitions net) ≡ extra_transitions net.rels
  unfolding transitions_of context_transitions
  extras_number =
      drop_at (concat_map (context_transitions net.rels) (range 0 (size net))) (extra_transitions net.rels) (2 * size net)
      (length_concat_map (context_transitions net.rels) 2 (λ _. refl) (range 0 (size net)) ∙ ap (λ (k : ℕ). 2 * k) (length_range 0 (size net)))
