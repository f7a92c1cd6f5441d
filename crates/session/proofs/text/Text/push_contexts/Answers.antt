use Rattle.std.specs.Prelude.{get_or}
use native.Mathlib.Omega.{arith}
use Rattle.session.proofs.Texts.{none_behind, more_behind}
use Rattle.session.proofs.text.Text.push_contexts.Goals as goal

pub loop-c-init : goal.loop-c-init
loop-c-init c = record { text = none_behind c.args.self.now (λ k. get_or c.args.counts.now k 0); short = omega arith }

pub loop-c-preserved : goal.loop-c-preserved
loop-c-preserved c =
    let l = c.loop-c in
    let pushed = c.push_context in
    record {
      text = more_behind c.args.self.now (λ k. get_or c.args.counts.now k 0) l.c l.self pushed.new.self l.invariant.text pushed.ensures.text;
      short = omega (arith, l.invariant.short, pushed.ensures.short);
    }
