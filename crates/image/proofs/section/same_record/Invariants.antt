-- The priority and the sets so far are the same.
use Rattle.std.proofs.Common.{◌≡◌, ◌+◌, ◌*◌, ◌∷◌, take}
use Rattle.model.specs.Sets.{concat_map, equal_lists}
use Rattle.model.specs.Image.{bytes}
use Rattle.transitions.specs.Arcs.{priority_number}
use Rattle.image.proofs.section.same_record.Given as goal

abbrev pub invariant-loop-i : goal.invariant-loop-i
invariant-loop-i l = l.same ≡ equal_lists (take (6 * l.i + 1) l.bytes) (priority_number l.arcs.priority ∷ concat_map (bytes 6) (take l.i l.set-items))
