use Rattle.std.proofs.Common.{◌≡◌, take, length}
use Rattle.image.proofs.copying.copy.Given as goal

-- what was written is what comes first
abbrev pub invariant-loop-i : goal.invariant-loop-i
invariant-loop-i l =
    record {
      same : take l.i l.to ≡ take l.i l.from;
      whole : length l.to ≡ length l.from;
    }
