use Rattle.std.specs.Prelude.{ℕ, ◌+◌, ◌-◌, ◌/◌, ◌<◌}
use mathlib.Core.Path.{◌≡◌, sym, ap, ◌∙◌}
use native.Mathlib.Omega.{arith}
use Rattle.model.specs.Image.{bytes}
use Rattle.listing.specs.Hash.{hashed}
use Rattle.listing.proofs.Steps.{hashed_low}
use Rattle.listing.proofs.hash_number.Goals as goal

pub loop-preserved : goal.loop-preserved
loop-preserved c =
    let here = c.loop in
    let a = c.args in
    let i = here.counter in
    let l : i < a.k = omega arith in
    ap (λ (s : ℕ). hashed s (bytes (a.k - (i + 1)) (here.rest / 256))) c.fold-sum.ensures ∙ hashed_low here.sum here.rest a.k i l ∙ here.invariant

pub returns : goal.returns
returns c =
    let here = c.loop in
    let e : c.args.k - here.counter ≡ 0 = omega arith in
    sym (ap (λ (j : ℕ). hashed here.sum (bytes j here.rest)) e) ∙ here.invariant
