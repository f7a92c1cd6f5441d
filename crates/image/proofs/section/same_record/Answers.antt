use Rattle.std.proofs.Common.{◌≡◌, ℕ, ◌/◌, ◌%◌, ◌&&◌, [], ◌∷◌, eqb, take, arith, ap, ◌∙◌}
use Rattle.std.proofs.lemmas.Grind.{get_or_default_zero}
use Rattle.model.specs.Sets.{equal_lists}
use Rattle.transitions.specs.Arcs.{priority_number}
use Rattle.image.proofs.Compared.{none_compared, set_compared, last_compared}
use Rattle.image.proofs.section.same_record.Goals as goal

pub loop-i-init : goal.loop-i-init
loop-i-init c =
    let sec = c.args.bytes.now in
    none_compared sec c.number.result c.requires ∙ ap (λ (p : ℕ). equal_lists (take 1 sec) (p ∷ [])) c.number.ensures

pub loop-i-preserved : goal.loop-i-preserved
loop-i-preserved c =
    let l = c.loop-i in
    let x = c.word_at.result in
    set_compared c.args.bytes.now c.sets_of-sets.result.0 (priority_number c.args.arcs.now.priority) c.sets_of-sets.result.1 l.i c.requires c.sets_of-sets.ensures.seven l.same l.invariant c.loop-i-test.true x c.word_at.ensures
    (ap (λ (w : ℕ). eqb (x % 281474976710656) (w % 281474976710656)) (c.word.ensures ∙ get_or_default_zero c.sets_of-sets.result.0 l.i c.set-item.result (omega (arith, c.loop-i-test.true, c.sets_of-sets.ensures.seven))))

pub returns : goal.returns
returns c =
    let l = c.loop-i in
    let x = c.word_at-2.result in
    let seven : l.i ≡ 7 = omega (arith, c.loop-i-test.false, l.auto.i-end) in
    ap (λ (w : ℕ). l.same && eqb (x / 65536) (w % 281474976710656)) c.word-2.ensures
    ∙ last_compared c.args.bytes.now c.sets_of-sets.result.0 (priority_number c.args.arcs.now.priority) c.sets_of-sets.result.1 l.i c.requires c.sets_of-sets.ensures.seven l.same l.invariant
    seven c.sets_of-sets.ensures.sets x c.word_at-2.ensures c.word_at-2.type_inv
