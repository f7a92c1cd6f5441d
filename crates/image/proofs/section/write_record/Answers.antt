use Rattle.std.proofs.Common.{◌≡◌, ℕ, ◌+◌, ◌*◌, [], ◌∷◌, length, take, length-set, arith, ap, ◌∙◌}
use Rattle.std.specs.Int.{w64, to_le_bytes}
use Rattle.std.proofs.lemmas.Grind.{get_or_default_zero}
use Rattle.transitions.specs.Arcs.{priority_number}
use Rattle.image.proofs.Blocks.{length_written}
use Rattle.image.proofs.Spills.{set_none, set_more, set_last}
use Rattle.image.proofs.section.write_record.Goals as goal

pub loop-i-init : goal.loop-i-init
loop-i-init c =
    record {
      long = length-set c.args.out.now 0 c.number.result ∙ c.requires;
      front = set_none c.args.out.now c.number.result c.requires ∙ ap (λ (p : ℕ). p ∷ []) c.number.ensures;
    }

pub loop-i-preserved : goal.loop-i-preserved
loop-i-preserved c =
    let l = c.loop-i in
    let long = l.invariant.long in
    let inside = c.loop-i-test.true in
    record {
      long = length_written l.out c.copy_from_slice.new.self (6 * l.i + 1) (6 * l.i + 9) (omega (arith, ap length (c.copy_from_slice.ensures.after ∙ c.to_le_bytes.ensures.word))) (omega (arith, long, inside)) ∙ long;
      front = set_more l.out c.copy_from_slice.new.self c.sets_of-sets.result.0 (priority_number c.args.arcs.now.priority) l.i long (omega (arith, inside)) (omega (arith, inside, c.sets_of-sets.ensures.seven)) (c.copy_from_slice.ensures.after ∙ c.to_le_bytes.ensures.word ∙ ap (to_le_bytes w64) (get_or_default_zero c.sets_of-sets.result.0 l.i c.set-item.result (omega (arith, inside, c.sets_of-sets.ensures.seven)))) l.invariant.front;
    }

pub returns : goal.returns
returns c =
    let l = c.loop-i in
    let seven : l.i ≡ 7 = omega (arith, c.loop-i-test.false, l.auto.i-end) in
    set_last l.out c.copy_from_slice-2.new.self c.sets_of-sets.result.0 _ (priority_number c.args.arcs.now.priority) c.sets_of-sets.result.1 l.i l.invariant.long c.sets_of-sets.ensures.seven seven (c.copy_from_slice-2.ensures.after ∙ ap (take 6) c.to_le_bytes-2.ensures.word) l.invariant.front c.sets_of-sets.ensures.sets
