-- A count is above 0 where it is above the entry of an array of zeros.
use Prim.Native.Nat.{ℕ}
use mathlib.Core.Bool.{◌&&◌}
use mathlib.Core.Path.{ap, ◌∙◌}
use lib.Dec.{ltb}
use lib.ListN.{get_or, replicate}
use Rattle.sets.specs.Sets.{upto}
use Rattle.model.specs.Firing.{holds_token}
use Rattle.model.proofs.Masks.{number_cong}
use Rattle.net.specs.Markings.{counts_in}
use Rattle.step.specs.Spare.{below}
use Rattle.step.proofs.Gathering.{zeros_at}
use Rattle.step.proofs.beginning.active.Goals as goal

pub returns : goal.returns
returns c =
    let a = c.args in
    let counts = a.counts.now in
    c.less.ensures
    ∙ number_cong 64 (upto a.n (below counts (replicate 48 0))) (upto a.n (holds_token (counts_in counts)))
    (λ j l. ap (λ (x : ℕ). ltb j a.n && ltb x (get_or counts j 0)) (zeros_at 48 j))
