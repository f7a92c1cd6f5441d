use Rattle.std.proofs.Common.{◌≡◌, take}
use Rattle.model.specs.Relations.{repeats}
use Rattle.relations.specs.Reading.{relations_of}
use Rattle.relations.specs.Links.{Linked}
use Rattle.relations.proofs.links.Links.link_all.Given as goal

-- the sets hold what the relations so far link, and it is known whether one of these is the same as an earlier one
abbrev pub invariant-loop-triple : goal.invariant-loop-triple
invariant-loop-triple l =
    record {
      linked : Linked (relations_of (take l.triple-index l.triples)) l.self.sets;
      told : l.repeated ≡ repeats (relations_of (take l.triple-index l.triples));
    }
