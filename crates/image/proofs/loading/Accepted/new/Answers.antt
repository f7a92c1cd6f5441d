use Rattle.std.proofs.Common.{true, false, rules, sym, ap, ◌∙◌}
use Rattle.model.specs.Image.{edition_1, given_net}
use Rattle.image.proofs.Loads.{layout_refused, list_found_refused, records_tested, same_found, part_found}
use Rattle.image.proofs.loading.Accepted.new.Goals as goal

pub returns-in_err-image-clause-verdict : goal.returns-in_err-image-clause-verdict
returns-in_err-image-clause-verdict c =
    let q = layout_refused c.args.image.now c.in_err-image.field-0.0 (sym c.in_err-image.ensures.verdict) in
    search (rules, q.verdict)

pub returns-in_err-list-clause-verdict : goal.returns-in_err-list-clause-verdict
returns-in_err-list-clause-verdict c =
    let q =
    list_found_refused c.args.image.now c.in_ok-image.image c.in_ok-image.ensures.image c.relations.result.now c.capacities.ensures c.relations.ensures.net c.relations.ensures.whole
    (sym c.in_ok-image.ensures.verdict) c.in_err-list.field-0.0 (sym c.in_err-list.ensures.verdict) in
    search (rules, q.verdict)

pub returns-then-not-has_records_of-clause-verdict : goal.returns-then-not-has_records_of-clause-verdict
returns-then-not-has_records_of-clause-verdict c =
    let q =
    records_tested c.args.image.now c.in_ok-image.image c.in_ok-image.ensures.image c.relations.result.now c.capacities.ensures c.relations.ensures.net c.relations.ensures.whole
    (sym c.in_ok-image.ensures.verdict) (sym c.in_ok-list.ensures.verdict) false (sym c.if-not-has_records_of.true ∙ c.has_records_of.ensures) in
    sym q.verdict

pub returns : goal.returns
returns c =
    let img = c.args.image.now in
    let laid = c.in_ok-image.image in
    let found = c.in_ok-image.ensures.image in
    let bs = c.relations.result.now in
    let q =
    records_tested img laid found bs c.capacities.ensures c.relations.ensures.net c.relations.ensures.whole
    (sym c.in_ok-image.ensures.verdict) (sym c.in_ok-list.ensures.verdict) true (sym c.if-not-has_records_of.false ∙ c.has_records_of.ensures) in
    record {
      verdict = sym q.verdict;
      image = found.0;
      same = c.in_ok-list.ensures.net ∙ ap (λ cs. given_net edition_1 cs bs) c.capacities.ensures ∙ c.relations.ensures.net;
      net = c.in_ok-list.ensures.net ∙ same_found img laid found bs c.capacities.ensures c.relations.ensures.net ∙ sym q.net_is;
      part = part_found img laid found ∙ sym q.part_is;
    }
