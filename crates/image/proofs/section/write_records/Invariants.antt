-- What is written and what is still to come make all records.
use Rattle.std.proofs.Common.{◌≡◌, ◌+◌, ◌*◌, ◌++◌, length, take}
use Rattle.model.specs.Sets.{concat_map}
use Rattle.model.specs.Image.{edition_1, records}
use Rattle.relations.specs.Lists.{net_of}
use Rattle.transitions.specs.Walk.{rest}
use Rattle.image.specs.Records.{record_of}
use Rattle.image.proofs.section.write_records.Given as goal

abbrev pub invariant-loop-arcs : goal.invariant-loop-arcs
invariant-loop-arcs l =
    record {
      room : l.at + 49 * length (rest l.arcs-iterator) ≡ length l.out;
      all : take l.at l.out ++ concat_map record_of (rest l.arcs-iterator) ≡ records edition_1 (net_of l.fn.list);
    }
