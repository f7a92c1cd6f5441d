use Prim.Native.Nat.{◌^◌}
use mathlib.Core.Path.{◌≡◌, ◌∙◌}
use native.Mathlib.Omega.{arith}
use lib.Pow.{pow_pos}
use Rattle.sets.proofs.Laws.{number_singleton}
use Rattle.sets.proofs.set.Set.below.Goals as goal

pub nonzero_rem-result : goal.nonzero_rem-result
nonzero_rem-result c =
    let small = c.if-end-eq64.false in
    let power : c.singleton.result ≡ 2 ^ c.args.end = c.singleton.ensures ∙ number_singleton 64 c.args.end (omega (arith, c.requires)) in
    omega (arith, power, pow_pos c.args.end, c.result.view_is)
