use Rattle.std.proofs.Common.{◌≡◌, ◌*◌, ◌+◌, ◌∙◌, sym, arith}
use Rattle.net.proofs.Finding.{left_start, own_found, left_more, none_found}
use Rattle.net.proofs.table.Table.first_own.Goals as goal

pub loop-c-init : goal.loop-c-init
loop-c-init c =
    record {
      can_next = tt;
      is_finite = tt;
      left = left_start c.requires c.args.self.now c.args.marked.now c.args.spare c.movable.ensures (c.into_iter-c-iterator.ensures.into_iter_gives ∙ c.iter-c-items.ensures ∙ c.below.ensures);
    }

pub returns-then-is_ready : goal.returns-then-is_ready
returns-then-is_ready c =
    own_found c.requires c.args.self.now c.args.marked.now c.args.spare c.loop-c.invariant.left c.in-Some.ensures.steps (2 * c.in-Some.c) (omega arith)
    (sym c.is_ready.ensures ∙ c.if-is_ready.true)
    (λ j half before. absurd (omega arith))

pub returns-then-is_ready-2 : goal.returns-then-is_ready-2
returns-then-is_ready-2 c =
    own_found c.requires c.args.self.now c.args.marked.now c.args.spare c.loop-c.invariant.left c.in-Some.ensures.steps (2 * c.in-Some.c + 1) (omega arith)
    (sym c.is_ready-in-loop-c.ensures ∙ c.if-is_ready-2.true)
    (λ j half before. let act : j ≡ 2 * c.in-Some.c = omega arith in rw act (sym c.is_ready.ensures ∙ c.if-is_ready.false))

pub loop-c-preserved : goal.loop-c-preserved
loop-c-preserved c =
    record {
      can_next = tt;
      is_finite = tt;
      left = left_more c.requires c.args.self.now c.args.marked.now c.args.spare c.loop-c.invariant.left c.in-Some.ensures.steps
          (sym c.is_ready.ensures ∙ c.if-is_ready.false)
          (sym c.is_ready-in-loop-c.ensures ∙ c.if-is_ready-2.false);
    }

pub returns : goal.returns
returns c = none_found c.requires c.args.self.now c.args.marked.now c.args.spare c.loop-c.invariant.left c.in-None.ensures.steps.0
