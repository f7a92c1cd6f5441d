use Rattle.std.proofs.Common.{◌*◌, None, ◌∙◌, sym, arith}
use Rattle.net.specs.Walks.{Finds}
use Rattle.net.proofs.Finding.{ready_told, finds_past, finds_here, finds_end, prefers_urgent, prefers_low, is_high, not_high, not_ready}
use Rattle.net.proofs.table.Table.first_extra.Goals as goal

pub loop-i-init : goal.loop-i-init
unfolding Finds
loop-i-init c = record { inside = omega arith; first = λ j b l. absurd (omega arith); calm = λ j b l. absurd (omega arith) }

pub loop-i-preserved-then-not-passes : goal.loop-i-preserved-then-not-passes
loop-i-preserved-then-not-passes c =
    let table = c.args.self.now in
    let it = c.loop-i.invariant in
    let fails = ready_told table c.args.marked.now c.args.spare c.loop-i.i c.row-row.ensures c.passes.ensures ∙ c.if-not-passes.true in
    record {
      inside = omega (arith, c.loop-i-test.true);
      first = finds_past _ _ c.loop-i.i c.loop-i.late it.first fails;
      calm = finds_past _ _ c.loop-i.i None it.calm (not_ready table c.args.marked.now c.args.spare c.loop-i.i c.row-row.ensures fails);
    }

pub returns-in-Urgent : goal.returns-in-Urgent
returns-in-Urgent c =
    let table = c.args.self.now in
    let i = c.loop-i.i in
    prefers_urgent _ _ (2 * c.args.contexts) table.count i c.loop-i.auto.i c.loop-i-test.true
    (is_high table c.args.marked.now c.args.spare i c.row-row.ensures (ready_told table c.args.marked.now c.args.spare i c.row-row.ensures c.passes.ensures ∙ c.if-not-passes.false) (sym c.priority.ensures ∙ c.in-Urgent.is)) c.loop-i.invariant.calm

pub loop-i-preserved : goal.loop-i-preserved
loop-i-preserved c =
    let table = c.args.self.now in
    let i = c.loop-i.i in
    let it = c.loop-i.invariant in
    record {
      inside = omega (arith, c.loop-i-test.true);
      first = rw c.or-late.ensures (finds_here _ _ i c.loop-i.auto.i c.loop-i.late it.first (ready_told table c.args.marked.now c.args.spare i c.row-row.ensures c.passes.ensures ∙ c.if-not-passes.false));
      calm = finds_past _ _ i None it.calm (not_high table c.args.marked.now c.args.spare i c.row-row.ensures (sym c.priority.ensures ∙ c.in-Late.is));
    }

pub returns : goal.returns
returns c =
    let table = c.args.self.now in
    let it = c.loop-i.invariant in
    prefers_low _ _ (2 * c.args.contexts) table.count c.loop-i.late
    (finds_end _ _ c.loop-i.i table.count (omega (arith, c.loop-i-test.false)) it.inside None it.calm)
    (finds_end _ _ c.loop-i.i table.count (omega (arith, c.loop-i-test.false)) it.inside c.loop-i.late it.first)
