use Rattle.std.proofs.Common.{◌≡◌, ℕ, ◌+◌, ◌<◌, List, refl, true≢false, ◌++◌, drop, length, rules, arith, sym, ap, ap₂, ◌∙◌}
use Rattle.model.specs.Relations.{Net}
use Rattle.model.specs.Image.{edition_1, load}
use Rattle.image.specs.Images.{net_in}
use Rattle.image.specs.Listing.{Listed, listing}
use Rattle.image.proofs.Lists.{refused_listed, short_listed, whole_listed, part_found, length_listing}
use Rattle.image.proofs.listing.list.Goals as goal

pub returns-in_err-accepted : goal.returns-in_err-accepted
returns-in_err-accepted c =
    let q = refused_listed c.args.image.now c.args.out.now c.in_err-accepted.field-0.0 (sym c.in_err-accepted.ensures.verdict) in
    record {
      verdict = search (rules, ap (λ (x : Listed). x.verdict) q);
      no_room = search rules;
      written = search (rules, ap (λ (x : Listed). x.written) q);
      output = sym (ap (λ (x : Listed). x.output) q);
    }

pub write_list-requires-clause-part : goal.write_list-requires-clause-part
write_list-requires-clause-part c =
    part_found c.args.image.now c.in_ok-accepted.accepted.image (search rules) c.in_ok-accepted.ensures.image c.list-part.ensures

pub returns-then-out-size : goal.returns-then-out-size
returns-then-out-size c =
    let img = c.args.image.now in
    let net = net_in c.in_ok-accepted.accepted.image in
    let known = c.in_ok-accepted.ensures in
    let net_is : net ≡ (load edition_1 img).net = sym known.same ∙ known.net in
    let p = part_found img c.in_ok-accepted.accepted.image (search rules) known.image c.list-part.ensures in
    let n = length_listing net p in
    let m = ap (λ (x : Net). length (listing x)) net_is in
    let short : length c.args.out.now < length (listing (load edition_1 img).net) = omega (arith, n, m, c.if-out-size.true) in
    let q = short_listed img c.args.out.now (sym known.verdict) short in
    record {
      verdict = sym (ap (λ (x : Listed). x.verdict) q);
      no_room = (λ _. short, λ _. refl);
      written = sym (ap (λ (x : Listed). x.written) q);
      output = sym (ap (λ (x : Listed). x.output) q);
    }

pub returns : goal.returns
returns c =
    let img = c.args.image.now in
    let out = c.args.out.now in
    let net = net_in c.in_ok-accepted.accepted.image in
    let known = c.in_ok-accepted.ensures in
    let net_is : net ≡ (load edition_1 img).net = sym known.same ∙ known.net in
    let p = part_found img c.in_ok-accepted.accepted.image (search rules) known.image c.list-part.ensures in
    let n : length c.list-part.result.now + 2 ≡ length (listing (load edition_1 img).net) = sym (length_listing net p) ∙ ap (λ (x : Net). length (listing x)) net_is in
    let q = whole_listed img out (sym known.verdict) (omega (arith, n, c.if-out-size.false)) in
    record {
      verdict = sym (ap (λ (x : Listed). x.verdict) q);
      no_room = (λ e. absurd (true≢false e), λ h. absurd (omega (arith, n, h, c.if-out-size.false)));
      written = n ∙ sym (ap (λ (x : Listed). x.written) q);
      output = ap₂ (λ (x : List ℕ) (k : ℕ). x ++ drop k out) (c.write_list.ensures ∙ ap listing net_is) n ∙ sym (ap (λ (x : Listed). x.output) q);
    }
