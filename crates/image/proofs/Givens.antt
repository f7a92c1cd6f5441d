-- The image of a list that is given as bytes.
-- Assumes nothing.
use Rattle.std.proofs.Common.{◌≡◌, ℕ, ◌+◌, ◌*◌, ◌/◌, ◌%◌, not, List, ◌++◌, eqb, length, sym, ap, ◌∙◌, arith, take_all, eqb-true}
use borrow.Author.Tests.{not-false}
use Rattle.model.specs.Sets.{Each, cons, IsByte, concat_map}
use Rattle.model.specs.Refusals.{first_refusal}
use Rattle.model.specs.Relations.{Net, size, relation_count}
use Rattle.model.specs.declared.Relation.{Relation}
use Rattle.relations.specs.Reading.{relations_of}
use lib.ListN.{length-map}
use Rattle.image.specs.Trailers.{trailer_for}
use Rattle.model.specs.Image.{edition_1, Trailer, relation_bytes, relation_from, records, transition_count, trailer, trailer_bytes, image, given_net, bad_sizes}
use Rattle.model.specs.Claims.{Passes}
use Rattle.model.specs.declared.Verdict.TheVariants.{Granted}
use Rattle.model.proofs.Tests.{or_false_right}
use Rattle.model.proofs.Checks.{granted_passes}
use Rattle.model.proofs.Sizes.{length_image}
use Rattle.model.proofs.Accepts.{relations_written, length_read}
use Rattle.relations.specs.Lists.{given_checks}

module _ (caps bs : List ℕ) where
  -- relations that pass are not cut short
  pub whole_by : first_refusal (given_checks caps bs) ≡ Granted → length bs % 3 ≡ 0
  whole_by e = go (granted_passes (given_checks caps bs) e)
    where
      go : Each Passes (given_checks caps bs) → length bs % 3 ≡ 0
      go (cons p ps) =
          eqb-true (length bs % 3) 0 (not-false _ (or_false_right (bad_sizes edition_1 (length caps) (length bs / 3)) (not (eqb (length bs % 3) 0)) p))

  module _ (whole : length bs % 3 ≡ 0) where
    -- their bytes stand in the image as they were given
    pub given_bytes : Each IsByte bs → concat_map (relation_bytes edition_1) (given_net edition_1 caps bs).rels ≡ bs
    given_bytes all =
        let r = length bs / 3 in
        relations_written edition_1 r bs (omega arith) all ∙ take_all (3 * r) bs (omega arith)

    -- the parts of their image
    pub parts_sized : (net : Net) → net ≡ given_net edition_1 caps bs → (e : Trailer) → e ≡ trailer_for net
        → e.n + e.to_relations + 8 ≡ size net + length bs + 49 * transition_count net + 8
    unfolding trailer
    parts_sized net net_is e e_is =
        let q = length_read edition_1 (length bs / 3) bs in
        let k = ap relation_count net_is in
        let n = ap (λ (x : Trailer). x.n) e_is in
        let r = ap (λ (x : Trailer). x.to_relations) e_is in
        omega arith

-- the size of a net's image, by its trailer
pub image_sized : (net : Net) (e : Trailer) → e ≡ trailer_for net → length (image edition_1 net) ≡ e.n + e.to_relations + 8
unfolding trailer
image_sized net e e_is =
    let p = length_image edition_1 net in
    let n = ap (λ (x : Trailer). x.n) e_is in
    let r = ap (λ (x : Trailer). x.to_relations) e_is in
    omega arith

-- the image in four parts
pub image_parts : (net : Net) {a b c d : List ℕ} → a ≡ net.caps → b ≡ concat_map (relation_bytes edition_1) net.rels → c ≡ records edition_1 net
    → d ≡ trailer_bytes edition_1 (trailer_for net) → a ++ (b ++ (c ++ d)) ≡ image edition_1 net
unfolding image
image_parts net a b c d = λ i. a i ++ (b i ++ (c i ++ d i))

-- as many relations as there are triples
pub triples_count : (triples : List (List ℕ)) {rels : List Relation} → relations_of triples ≡ rels → length triples ≡ length rels
triples_count triples e = sym (length-map triples relation_from) ∙ ap length e
