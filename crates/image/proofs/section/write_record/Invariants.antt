-- The record up to the sets that are written.
use Rattle.std.proofs.Common.{◌≡◌, ◌+◌, ◌*◌, ◌∷◌, length, take}
use Rattle.model.specs.Sets.{concat_map}
use Rattle.model.specs.Image.{bytes}
use Rattle.transitions.specs.Arcs.{priority_number}
use Rattle.image.proofs.section.write_record.Given as goal

abbrev pub invariant-loop-i : goal.invariant-loop-i
invariant-loop-i l =
    record {
      long : length l.out ≡ 49;
      front : take (6 * l.i + 1) l.out ≡ priority_number l.arcs.priority ∷ concat_map (bytes 6) (take l.i l.set-items);
    }
