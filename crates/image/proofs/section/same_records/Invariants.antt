-- What is left of the section is compared with the records still to come.
use Rattle.std.proofs.Common.{◌≡◌, ◌*◌, length}
use Rattle.model.specs.Sets.{concat_map, equal_lists}
use Rattle.model.specs.Image.{edition_1, records}
use Rattle.relations.specs.Lists.{net_of}
use Rattle.transitions.specs.Walk.{rest}
use Rattle.image.specs.Records.{record_of}
use Rattle.image.proofs.section.same_records.Given as goal

abbrev pub invariant-loop-arcs : goal.invariant-loop-arcs
invariant-loop-arcs l =
    record {
      sized : length l.left ≡ 49 * length (rest l.arcs-iterator);
      same : equal_lists l.left (concat_map record_of (rest l.arcs-iterator)) ≡ equal_lists l.section (records edition_1 (net_of l.fn.list));
    }
