-- The word has the digits of the contexts from 4k on.
use Prim.Native.Nat.{ℕ, ◌+◌, ◌-◌, ◌*◌, ◌/◌, ◌≤◌}
use mathlib.Core.Path.{◌≡◌}
use Rattle.model.specs.Sets.{from, number}
use Rattle.step.specs.Flags.{flagged, Flags}
use Rattle.step.proofs.beginning.gathered.Given as goal

-- how many fours
abbrev top : ℕ → ℕ
top n = 8 * ((n + 7) / 8) / 4

abbrev pub invariant-loop-k : goal.invariant-loop-k
invariant-loop-k l =
    record {
      few : l.n ≤ 48;
      below : l.k ≤ top l.n;
      flags : Flags l.flags;
      word : l.word ≡ number (4 * (top l.n - l.k)) (from (4 * l.k) (flagged l.flags));
    }
