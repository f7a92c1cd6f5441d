use Rattle.std.proofs.Common.{◌≡◌, false, take}
use Rattle.std.specs.List.{list_any}
use Rattle.relations.specs.Reading.{misfits_triple}
use Rattle.relations.proofs.checks.has_misfit.Given as goal

-- the relations so far fit
abbrev pub invariant-loop-i : goal.invariant-loop-i
invariant-loop-i l = list_any (misfits_triple l.contexts) (take l.i l.triples) ≡ false
