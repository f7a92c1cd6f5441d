use Rattle.std.proofs.Common.{[], ℕ, List, length, ◌+◌, refl, sym, ap, ◌∙◌, arith, rules}
use Rattle.std.proofs.lemmas.List.Edits.{length-paste}
use Rattle.std.specs.Prelude.{Some}
use Rattle.history.specs.Encoding.{tally_bytes}
use Rattle.engine.specs.View.{state}
use Rattle.history.proofs.Calling.{called}
use Rattle.history.proofs.Reporting.{put, report_size, going_none, going_room, going_more, going_fits, going_end}
use Rattle.history.proofs.lists.run_on.Goals as goal

pub returns-then-out-size : goal.returns-then-out-size
returns-then-out-size c =
    let long = report_size (state c.args.engine.now []) c.args.calls.now in
    record { short = λ h. (refl, refl); long = λ h. absurd (omega (arith, c.contexts.ensures.contexts)) }

pub loop-bytes-init : goal.loop-bytes-init
loop-bytes-init c =
    let long = report_size (state c.args.engine.now []) c.args.calls.now in
    (refl, going_none _ _ _ _ _ (omega (arith, c.contexts.ensures.contexts)) c.new-writer.ensures.unwritten c.new-writer.ensures.none)

pub put-requires : goal.put-requires
put-requires c =
    let room = going_room _ _ _ _ _ _ _ c.loop-bytes.invariant.1 c.loop-bytes-test.true in
    omega (arith, ap length c.answer_bytes.ensures)

pub loop-bytes-preserved : goal.loop-bytes-preserved
loop-bytes-preserved c = (
  c.put.ensures.same_output ∙ c.loop-bytes.invariant.0,
  going_more _ _ _ _ _ _ _ c.loop-bytes.invariant.1 _ _ _ c.unwrap-call.result c.perform-answer.result c.loop-bytes-test.true
      (called c.args.calls.now c.loop-bytes.bytes-index c.requires c.loop-bytes-test.true c.try_from.result c.unwrap-call.result c.try_from.ensures c.unwrap-call.ensures)
      c.perform-answer.ensures
      (c.put.ensures.put ∙ ap (put c.loop-bytes.writer.out.now c.loop-bytes.writer.written) c.answer_bytes.ensures)
      (c.put.ensures.written ∙ ap (λ (l : List ℕ). c.loop-bytes.writer.written + length l) c.answer_bytes.ensures),
)

pub put-requires-2 : goal.put-requires-2
put-requires-2 c =
    let fits = going_fits _ _ _ _ _ _ _ c.loop-bytes.invariant.1 c.loop-bytes-test.false in
    omega (arith, ap length c.counts.ensures.counts)

pub put-requires-3 : goal.put-requires-3
put-requires-3 c =
    let fits = going_fits _ _ _ _ _ _ _ c.loop-bytes.invariant.1 c.loop-bytes-test.false in
    let listed = ap length c.counts.ensures.counts in
    let twelve = ap length c.tally_bytes.ensures in
    let kept = ap length c.put-2.ensures.put ∙ length-paste c.loop-bytes.writer.out.now c.loop-bytes.writer.written c.counts.result.now _ (omega arith) (omega arith) in
    omega (arith, c.put-2.ensures.written)

pub returns : goal.returns
returns c =
    let long = report_size (state c.args.engine.now []) c.args.calls.now in
    let w = c.loop-bytes.writer in
    let same = sym c.new-writer.ensures.same_output ∙ sym c.loop-bytes.invariant.0 ∙ sym c.put-2.ensures.same_output ∙ sym c.put-3.ensures.same_output in
    let whole = going_end _ _ _ _ _ _ _ c.loop-bytes.invariant.1 _ _ _ c.loop-bytes-test.false
    (c.put-2.ensures.put ∙ ap (put w.out.now w.written) c.counts.ensures.counts)
    (c.put-2.ensures.written ∙ ap (λ (l : List ℕ). w.written + length l) c.counts.ensures.counts)
    (c.put-3.ensures.put ∙ ap (put c.put-2.new.self.out.now c.put-2.new.self.written) (c.tally_bytes.ensures ∙ ap tally_bytes c.totals.ensures)) in
    record {
      short = λ h. absurd (omega (arith, c.contexts.ensures.contexts));
      long = λ h. (ap Some (omega (arith, c.contexts.ensures.contexts)), search (rules, same, whole));
    }
