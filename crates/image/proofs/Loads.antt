-- What loading gives, by the checks of the layout, of the list and of the records.
-- Assumes nothing.
use Rattle.std.proofs.Common.{◌≡◌, ℕ, ◌/◌, ◌%◌, Bool, true, false, cond, not, ◌||◌, List, [], ◌∷◌, ◌++◌, ◌-◌, eqb, length, drop, length-take-le, sym, ap, ap₂, ◌∙◌, arith}
use Rattle.model.specs.Sets.{Each, nil, cons}
use Rattle.model.specs.Refusals.{Check, refuse, first_refusal, is_granted}
use Rattle.model.specs.Relations.{Net, empty_net}
use Rattle.model.specs.Image.{Trailer, edition_1, trailer_of, bad_sizes, net_of, records_of, given_net, net_checks, other_records, trailer_start, load_checks, load}
use Rattle.model.specs.Claims.{Passes}
use Rattle.model.specs.declared.Refusal.{Refusal}
use Rattle.model.specs.declared.Refusal.TheVariants.{WrongSizes, WrongRecords}
use Rattle.model.specs.declared.Verdict.{Verdict}
use Rattle.model.specs.declared.Verdict.TheVariants.{Granted, Refused}
use Rattle.model.proofs.Checks.{granted_passes}
use Rattle.model.proofs.Accepts.{length_read}
use Rattle.relations.specs.Lists.{given_checks}
use Rattle.image.specs.Trailers.{trailer_as, LaidOut}
use Rattle.image.specs.Images.{layout_checks, net_in, records_in}
use Rattle.image.specs.declared.laid.LaidImage.{LaidImage}
use Rattle.image.proofs.Layouts.{laid_out}
use Rattle.image.proofs.Verdicts.{refused_before, granted_before}

by_test : (x b : Bool) → b ≡ not x → first_refusal (refuse WrongRecords x ∷ []) ≡ cond b Granted (Refused WrongRecords)
by_test true b h = sym (ap (λ (y : Bool). cond y Granted (Refused WrongRecords)) h)
by_test false b h = sym (ap (λ (y : Bool). cond y Granted (Refused WrongRecords)) h)

module _ (img : List ℕ) where
  abbrev e : Trailer
  e = trailer_of edition_1 img

  abbrev net : Net
  net = net_of edition_1 img e

  -- the verdict decides the rest
  pub record Loads (v : Verdict) : Type 0 where
    pub verdict : (load edition_1 img).verdict ≡ v
    pub net_is : (load edition_1 img).net ≡ cond (is_granted v) net empty_net
    pub part_is : (load edition_1 img).part ≡ cond (is_granted v) (records_of edition_1 img e) []

  by_verdict : (v : Verdict) → first_refusal (load_checks edition_1 img) ≡ v → Loads v
  unfolding load
  by_verdict v h =
      record {
        verdict = h;
        net_is = ap (λ (x : Verdict). cond (is_granted x) net empty_net) h;
        part_is = ap (λ (x : Verdict). cond (is_granted x) (records_of edition_1 img e) []) h;
      }

  abbrev records_check : List Check
  records_check = refuse WrongRecords (other_records edition_1 img e) ∷ []

  pub layout_refused : (k : Refusal) → first_refusal (layout_checks img) ≡ Refused k → Loads (Refused k)
  layout_refused k h = by_verdict (Refused k) (refused_before (layout_checks img) (net_checks net ++ records_check) k h)

  module _ (layout : first_refusal (layout_checks img) ≡ Granted) where
    laid : LaidOut img e
    laid = go (granted_passes (layout_checks img) layout)
      where
        go : Each Passes (layout_checks img) → LaidOut img e
        go (cons p1 (cons p2 (cons p3 (cons p4 nil)))) = laid_out img e p3 p4

    sizes : bad_sizes edition_1 e.n e.r ≡ false
    sizes = go (granted_passes (layout_checks img) layout)
      where
        go : Each Passes (layout_checks img) → bad_sizes edition_1 e.n e.r ≡ false
        go (cons p1 (cons p2 (cons p3 ps))) = p3

    -- the capacities and relations that the image holds
    module _ (caps bs : List ℕ) (same : given_net edition_1 caps bs ≡ net) (whole : length bs % 3 ≡ 0) where
      contexts : length caps ≡ e.n
      unfolding net_of
      contexts = ap (λ (n : Net). length n.caps) same ∙ length-take-le e.n img (let w = laid.whole in omega arith)

      relations : length bs / 3 ≡ e.r
      unfolding net_of
      relations =
          sym (length_read edition_1 (length bs / 3) bs)
          ∙ ap (λ (n : Net). length n.rels) same
          ∙ length_read edition_1 e.r (drop (trailer_start edition_1 img - e.to_relations) img)

      -- their sizes were tested before
      list_checked : first_refusal (given_checks caps bs) ≡ first_refusal (net_checks net)
      list_checked =
          let passed : bad_sizes edition_1 (length caps) (length bs / 3) ≡ false = ap₂ (bad_sizes edition_1) contexts relations ∙ sizes in
          ap (λ (b : Bool). elim b as (λ _. Verdict) [ true ↦ Refused WrongSizes | false ↦ first_refusal (net_checks (given_net edition_1 caps bs)) ])
          (ap₂ (λ (x : Bool) (k : ℕ). x || not (eqb k 0)) passed whole)
          ∙ ap (λ (n : Net). first_refusal (net_checks n)) same

      list_refused : (k : Refusal) → first_refusal (given_checks caps bs) ≡ Refused k → Loads (Refused k)
      list_refused k h =
          by_verdict (Refused k)
          (granted_before (layout_checks img) (net_checks net ++ records_check) layout
          ∙ refused_before (net_checks net) records_check k (sym list_checked ∙ h))

      -- and the test of the records decides
      by_records : first_refusal (given_checks caps bs) ≡ Granted → (b : Bool) → b ≡ not (other_records edition_1 img e)
          → Loads (cond b Granted (Refused WrongRecords))
      by_records h b e_is =
          by_verdict (cond b Granted (Refused WrongRecords))
          (granted_before (layout_checks img) (net_checks net ++ records_check) layout
          ∙ granted_before (net_checks net) records_check (sym list_checked ∙ h)
          ∙ by_test (other_records edition_1 img e) b e_is)

  -- an image with these bytes and this trailer
  module _ (laid_image : LaidImage) (found : (laid_image.bytes.now ≡ img) × (trailer_as laid_image.trailer ≡ e)) where
    pub part_found : records_in laid_image ≡ records_of edition_1 img e
    part_found = λ i. records_of edition_1 (found.0 i) (found.1 i)

    -- and the capacities and relations that are read in it
    module _ (bs : List ℕ) {caps : List ℕ} (caps_are : caps ≡ (net_in laid_image).caps)
        (net_is : given_net edition_1 (net_in laid_image).caps bs ≡ net_in laid_image) where
      pub same_found : given_net edition_1 caps bs ≡ net
      same_found = ap (λ (cs : List ℕ). given_net edition_1 cs bs) caps_are ∙ net_is ∙ (λ i. net_of edition_1 (found.0 i) (found.1 i))

      module _ (whole : length bs % 3 ≡ 0) (layout : first_refusal (layout_checks img) ≡ Granted) where
        pub list_found_refused : (k : Refusal) → first_refusal (given_checks caps bs) ≡ Refused k → Loads (Refused k)
        list_found_refused = list_refused layout caps bs same_found whole

        pub records_tested : first_refusal (given_checks caps bs) ≡ Granted
            → (b : Bool) → b ≡ not (other_records edition_1 laid_image.bytes.now (trailer_as laid_image.trailer)) → Loads (cond b Granted (Refused WrongRecords))
        records_tested h b b_is =
            by_records layout caps bs same_found whole h b (b_is ∙ (λ i. not (other_records edition_1 (found.0 i) (found.1 i))))
