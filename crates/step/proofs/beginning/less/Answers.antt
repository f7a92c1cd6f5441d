use native.Mathlib.Omega.{arith}
use mathlib.Core.Path.{◌∙◌}
use lib.Dec.{ltb}
use lib.ListN.{get_or}
use Rattle.step.specs.Spare.{below}
use Rattle.step.proofs.Gathering.{made_start, made_turn, made_flags, made_set, bit_of_byte}
use Rattle.step.proofs.beginning.less.Goals as goal

pub loop-c-init : goal.loop-c-init
loop-c-init c =
    record { few = c.requires; end = c.eights-c-end.ensures; made = made_start (below c.args.high.now c.args.low.now) }

pub loop-c-preserved : goal.loop-c-preserved
loop-c-preserved c =
    let it = c.loop-c.invariant in
    let test = ltb (get_or c.args.low.now c.loop-c.c 0) (get_or c.args.high.now c.loop-c.c 0) in
    record {
      few = it.few;
      end = it.end;
      made = made_turn (below c.args.high.now c.args.low.now) it.made (omega (arith, it.few, it.end, c.loop-c-test.true)) (c.from.ensures ∙ bit_of_byte test);
    }

pub gathered-requires : goal.gathered-requires
gathered-requires c =
    (c.loop-c.invariant.few, made_flags (below c.args.high.now c.args.low.now) c.loop-c.invariant.made)

pub returns : goal.returns
returns c =
    let it = c.loop-c.invariant in
    made_set (below c.args.high.now c.args.low.now) it.made c.args.n (omega (arith, it.end, c.loop-c-test.false)) c.gathered.ensures
