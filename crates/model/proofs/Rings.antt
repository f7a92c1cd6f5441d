-- The ring of 16 implications at capacity 255: no activation of it meets 11, and none reports more than 4,080 firings.
-- Assumes nothing.
use Prim.Native.Nat.{ℕ, ◌+◌, ◌%◌, ◌≤◌}
use native.Mathlib.Omega.{arith}
use mathlib.Core.Path.{◌≡◌, refl}
use mathlib.Core.Logic.{◌≢◌}
use mathlib.Core.List.{map}
use lib.ListN.{replicate}
use Rattle.model.specs.Sets.{range}
use Rattle.model.specs.Relations.{Net, misfit, implies}
use Rattle.model.specs.Machine.{activation, zeros, effect}
use Rattle.model.specs.SixConditions.{relation}
use Rattle.model.specs.Claims.{Fits, SuggestsNone}
use Rattle.model.specs.declared.Verdict.TheVariants.{Refused}
use Rattle.model.proofs.Rules.{zeros_rules}
use Rattle.model.proofs.Monotone.{left_over, activation_firings, activation_ends}
use Rattle.model.specs.declared.Refusal.TheVariants.{StepLimitMet}

-- k contexts in a ring
abbrev pub ring_of : ℕ → Net
ring_of k = record { caps = replicate k 255; rels = map (λ i. relation implies i ((i + 1) % k)) (range 0 k) }

ring_fits : Fits (ring_of 16)
unfolding misfit
ring_fits = refl

ring_suggests_none : SuggestsNone (ring_of 16)
ring_suggests_none = refl

ring_room : left_over (ring_of 16) zeros ≡ 4080
unfolding left_over
ring_room = refl

pub ring_firings : (c : ℕ) → (effect (ring_of 16) zeros (activation c)).answer.firings ≤ 4080
ring_firings c =
    let p = activation_firings (ring_of 16) ring_fits ring_suggests_none zeros (zeros_rules (ring_of 16)) c in
    let q = ring_room in
    omega arith

pub ring_ends : (c : ℕ) → (effect (ring_of 16) zeros (activation c)).answer.verdict ≢ Refused StepLimitMet
ring_ends c = activation_ends (ring_of 16) ring_fits ring_suggests_none zeros (zeros_rules (ring_of 16)) c (let q = ring_room in omega arith)
