use Rattle.std.proofs.Common.{◌≡◌, List, ℕ, true, false, length, take, map, arith, ap, ◌∙◌}
use Rattle.std.proofs.lemmas.List.{length-map}
use Rattle.model.specs.Sets.{concat_map, equal_lists}
use Rattle.model.specs.Transitions.{transitions}
use Rattle.relations.specs.Lists.{net_of}
use Rattle.transitions.specs.Arcs.{arcs_of}
use Rattle.transitions.specs.Walk.{rest}
use Rattle.image.specs.Records.{record_of}
use Rattle.image.proofs.Blocks.{records_are, same_more, same_all}
use Rattle.image.proofs.section.same_records.Goals as goal

pub loop-arcs-init : goal.loop-arcs-init
loop-arcs-init c =
    let net = net_of c.args.list.now in
    let first : rest c.into_iter-arcs-iterator.result ≡ map arcs_of (transitions net) = ap rest c.into_iter-arcs-iterator.ensures.into_iter_gives ∙ c.of-arcs-items.ensures.words in
    let n = length-map (transitions net) arcs_of in
    record {
      sized = omega (arith, ap length first, n, c.requires);
      same = ap (equal_lists c.args.section.now) (ap (concat_map record_of) first ∙ records_are net);
    }

pub loop-arcs-preserved : goal.loop-arcs-preserved
loop-arcs-preserved c =
    let l = c.loop-arcs in
    let here : true ≡ equal_lists (take 49 l.left.now) (record_of c.in-Some.arcs) = cc in
    record {
      sized = omega (arith, c.split_at.ensures.back_len, ap length c.in-Some.ensures.steps, l.invariant.sized);
      same =
          ap (λ (behind : List ℕ). equal_lists behind (concat_map record_of (rest c.next.new.self))) c.split_at.ensures.back
          ∙ same_more l.left.now c.in-Some.arcs (rest l.arcs-iterator) (rest c.next.new.self) c.in-Some.ensures.steps l.invariant.sized true here l.invariant.same;
    }

pub returns-then-not-same_record : goal.returns-then-not-same_record
returns-then-not-same_record c =
    let l = c.loop-arcs in
    let here : false ≡ equal_lists (take 49 l.left.now) (record_of c.in-Some.arcs) = cc in
    same_more l.left.now c.in-Some.arcs (rest l.arcs-iterator) (rest c.next.new.self) c.in-Some.ensures.steps l.invariant.sized false here l.invariant.same

pub returns : goal.returns
returns c =
    let l = c.loop-arcs in
    same_all l.left.now (rest l.arcs-iterator) c.in-None.ensures.steps.0 l.invariant.sized ∙ l.invariant.same
