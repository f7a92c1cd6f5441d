use Rattle.std.proofs.Common.{◌≡◌, ℕ, ◌+◌, length, map, arith, ap, ◌∙◌}
use Rattle.std.proofs.lemmas.List.{length-map}
use Rattle.model.specs.Sets.{concat_map}
use Rattle.model.specs.Transitions.{transitions}
use Rattle.relations.specs.Lists.{net_of}
use Rattle.transitions.specs.Arcs.{arcs_of}
use Rattle.transitions.specs.Walk.{rest}
use Rattle.image.specs.Records.{record_of}
use Rattle.image.proofs.Blocks.{records_are, length_written, written_more, written_all}
use Rattle.image.proofs.section.write_records.Goals as goal

pub loop-arcs-init : goal.loop-arcs-init
loop-arcs-init c =
    let net = net_of c.args.list.now in
    let first : rest c.into_iter-arcs-iterator.result ≡ map arcs_of (transitions net) = ap rest c.into_iter-arcs-iterator.ensures.into_iter_gives ∙ c.of-arcs-items.ensures.words in
    let n = length-map (transitions net) arcs_of in
    record {
      room = omega (arith, ap length first, n, c.requires);
      all = ap (concat_map record_of) first ∙ records_are net;
    }

pub loop-arcs-preserved : goal.loop-arcs-preserved
loop-arcs-preserved c =
    let l = c.loop-arcs in
    let n = ap length c.in-Some.ensures.steps in
    record {
      room =
          omega (
            arith,
            n,
            l.invariant.room,
            length_written l.out c.write_record.new.out l.at (l.at + 49) (ap (λ (k : ℕ). l.at + k) (ap length c.write_record.ensures)) (omega (arith, n, l.invariant.room)),
          );
      all = written_more l.out c.write_record.new.out l.at c.in-Some.arcs (rest l.arcs-iterator) (rest c.next.new.self) c.in-Some.ensures.steps c.write_record.ensures (omega (arith, l.invariant.room)) l.invariant.all;
    }

pub returns : goal.returns
returns c =
    let l = c.loop-arcs in
    written_all l.out l.at (rest l.arcs-iterator) c.in-None.ensures.steps.0 l.invariant.room l.invariant.all
