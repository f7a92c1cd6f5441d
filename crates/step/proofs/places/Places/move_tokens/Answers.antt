use Prim.Native.Nat.{ℕ, ◌+◌, ◌-◌}
use mathlib.Core.Path.{◌≡◌, refl, sym, ap, subst, ◌∙◌}
use native.Mathlib.Omega.{arith}
use Rattle.sets.specs.Sets.{members}
use Rattle.step.specs.Places.{marking_of, tokens_on, with_tokens, put}
use Rattle.step.proofs.Moving.{tokens_with, with_own, others_kept, moved_start, Moved, room_width, width_two, next_inside, next_token, next_room, next_tokens, moved_more, all_moved}
use Rattle.step.proofs.places.Places.move_tokens.Goals as goal

pub loop-c-init : goal.loop-c-init
loop-c-init c =
    record {
      others = with_own c.args.kind (marking_of c.args.self.now);
      limits = record { contexts = refl; capacities = refl };
      moved = moved_start c.requires c.args.self.now.few c.symmetric_difference.ensures (c.into_iter-c-iterator.ensures.into_iter_gives ∙ c.iter-c-items.ensures ∙ c.below.ensures);
    }

pub tokens-requires : goal.tokens-requires
tokens-requires c =
    let it = c.loop-c.invariant in
    next_inside c.requires c.args.self.now.few it.moved c.in-Some.ensures.steps it.limits.contexts

pub overflow_sub-tokens : goal.overflow_sub-tokens
overflow_sub-tokens c =
    next_token c.requires c.args.self.now.few c.loop-c.invariant.moved c.in-Some.ensures.steps c.tokens.ensures.tokens c.from.ensures c.contains.ensures

pub overflow_add-tokens : goal.overflow_add-tokens
overflow_add-tokens c =
    let p = c.args.self.now in
    let fits = next_room c.requires p.few c.loop-c.invariant.moved c.in-Some.ensures.steps c.tokens.ensures.tokens c.from.ensures c.contains.ensures
    c.from-in-loop-c.ensures c.contains-in-loop-c.ensures c.tokens.ensures.narrow (room_width c.args.kind p.capacities p.narrow c.in-Some.c) in
    omega (arith, fits, width_two c.args.kind)

pub put-requires-clause-inside : goal.put-requires-clause-inside
put-requires-clause-inside c =
    let it = c.loop-c.invariant in
    next_inside c.requires c.args.self.now.few it.moved c.in-Some.ensures.steps it.limits.contexts

pub put-requires-clause-narrow : goal.put-requires-clause-narrow
put-requires-clause-narrow c =
    let p = c.args.self.now in
    next_room c.requires p.few c.loop-c.invariant.moved c.in-Some.ensures.steps c.tokens.ensures.tokens c.from.ensures c.contains.ensures
    c.from-in-loop-c.ensures c.contains-in-loop-c.ensures c.tokens.ensures.narrow (room_width c.args.kind p.capacities p.narrow c.in-Some.c)

pub loop-c-preserved : goal.loop-c-preserved
loop-c-preserved c =
    let p = c.args.self.now in
    let it = c.loop-c.invariant in
    let k = c.args.kind in
    let m = marking_of c.loop-c.self in
    let m' = marking_of c.put.new.self in
    let now : ℕ → ℕ = tokens_on k m in
    let x : ℕ = c.tokens.result - c.from.result + c.from-in-loop-c.result in
    let moved : m' ≡ with_tokens k (put c.in-Some.c x now) m = c.put.ensures.marking in
    let now_is : tokens_on k m' ≡ put c.in-Some.c x now = ap (tokens_on k) moved ∙ tokens_with k (put c.in-Some.c x now) m in
    record {
      others = others_kept k (put c.in-Some.c x now) now (marking_of p) m m' it.others moved;
      limits = record { contexts = c.put.ensures.limits.contexts ∙ it.limits.contexts; capacities = c.put.ensures.limits.capacities ∙ it.limits.capacities };
      moved = subst (λ (f : ℕ → ℕ). Moved p.contexts (members c.args.takes) (members c.args.gives) (tokens_on k (marking_of p)) f c.next.new.self) (sym now_is)
          (moved_more c.requires p.few it.moved c.in-Some.ensures.steps
          (next_tokens c.requires p.few it.moved c.in-Some.ensures.steps c.tokens.ensures.tokens c.from.ensures c.contains.ensures
          c.from-in-loop-c.ensures c.contains-in-loop-c.ensures));
    }

pub returns : goal.returns
returns c =
    let it = c.loop-c.invariant in
    record {
      marking =
          it.others
          ∙ ap (λ (f : ℕ → ℕ). with_tokens c.args.kind f (marking_of c.args.self.now)) (all_moved c.requires c.args.self.now.few it.moved c.in-None.ensures.steps.0);
      limits = it.limits;
    }
