use Rattle.std.proofs.Common.{◌≡◌, ℕ, List, ◌++◌, drop, length, length-take-le, rules, arith, sym, ap, ap₂, ◌∙◌}
use Rattle.model.specs.Sets.{concat_map}
use Rattle.model.specs.Relations.{Net}
use Rattle.model.specs.Image.{edition_1, image, relation_bytes, given_net}
use Rattle.relations.specs.Lists.{net_of}
use Rattle.image.specs.Trailers.{trailer_as, trailer_for}
use Rattle.image.proofs.Verdicts.{list_refused, output_refused, written}
use Rattle.image.proofs.Layouts.{bytes_each}
use Rattle.image.proofs.Givens.{whole_by, given_bytes, parts_sized, image_sized}
use Rattle.image.proofs.composing.compose.Goals as goal

pub returns-in_err-list : goal.returns-in_err-list
returns-in_err-list c =
    let a = c.args in
    let q = list_refused a.capacities.now a.relations.now a.out.now c.in_err-list.field-0.0 (sym c.in_err-list.ensures.verdict) in
    record {
      verdict = search (rules, q.verdict);
      written = search (rules, q.written);
      output = sym q.output;
    }

pub write_image-requires-clause-relations : goal.write_image-requires-clause-relations
write_image-requires-clause-relations c =
    let a = c.args in
    let whole = whole_by a.capacities.now a.relations.now (sym c.in_ok-list.ensures.verdict) in
    sym (given_bytes a.capacities.now a.relations.now whole (bytes_each a.relations.now (search rules)))
    ∙ ap (λ (n : Net). concat_map (relation_bytes edition_1) n.rels) (sym (ap net_of c.fitting-list.ensures ∙ c.in_ok-list.ensures.net))

pub write_image-requires-clause-room : goal.write_image-requires-clause-room
write_image-requires-clause-room c =
    let a = c.args in
    let whole = whole_by a.capacities.now a.relations.now (sym c.in_ok-list.ensures.verdict) in
    length-take-le _ a.out.now c.if-out-size.false
    ∙ c.image_size-size.ensures
    ∙ parts_sized a.capacities.now a.relations.now whole (net_of c.fitting-list.result.now) (ap net_of c.fitting-list.ensures ∙ c.in_ok-list.ensures.net) (trailer_as c.of_list-trailer.result) c.of_list-trailer.ensures

pub returns-then-out-size : goal.returns-then-out-size
returns-then-out-size c =
    let a = c.args in
    let l = image_sized (given_net edition_1 a.capacities.now a.relations.now) (trailer_as c.of_list-trailer.result) (c.of_list-trailer.ensures ∙ ap trailer_for (ap net_of c.fitting-list.ensures ∙ c.in_ok-list.ensures.net)) in
    let q = output_refused a.capacities.now a.relations.now a.out.now (sym c.in_ok-list.ensures.verdict) (omega (arith, l, c.image_size-size.ensures, c.if-out-size.true)) in
    record {
      verdict = sym q.verdict;
      written = sym q.written;
      output = sym q.output;
    }

pub returns : goal.returns
returns c =
    let a = c.args in
    let net = given_net edition_1 a.capacities.now a.relations.now in
    let l = image_sized net (trailer_as c.of_list-trailer.result) (c.of_list-trailer.ensures ∙ ap trailer_for (ap net_of c.fitting-list.ensures ∙ c.in_ok-list.ensures.net)) in
    let n : c.image_size-size.result ≡ length (image edition_1 net) = c.image_size-size.ensures ∙ sym l in
    let q = written a.capacities.now a.relations.now a.out.now (sym c.in_ok-list.ensures.verdict) (omega (arith, n, c.if-out-size.false)) in
    record {
      verdict = sym q.verdict;
      written = n ∙ sym q.written;
      output =
          ap₂ (λ (x : List ℕ) (k : ℕ). x ++ drop k a.out.now) (c.write_image.ensures ∙ ap (image edition_1) (ap net_of c.fitting-list.ensures ∙ c.in_ok-list.ensures.net)) n
          ∙ sym q.output;
    }
