-- The parts of an image by what its trailer says.
-- Assumes nothing.
use Rattle.std.proofs.Common.{◌≡◌, ℕ, zero, suc, ◌+◌, ◌-◌, ◌*◌, ◌/◌, false, not, List, [], ◌∷◌, ◌++◌, eqb, length, get_or, ◌<◌, take, drop, refl, sym, ap, ap₂, ◌∙◌, arith, length-drop, length-take-le, take-add, take-take}
use Rattle.std.specs.Simd.{first_chunks}
use Rattle.std.proofs.lemmas.Slice.{between_is}
use Rattle.relations.specs.Reading.{relations_of}
use Rattle.relations.proofs.Reading.{relations_read}
use Rattle.model.proofs.Tests.{each_drop}
use Rattle.model.specs.Sets.{Each, nil, cons, IsByte, concat_map}
use Rattle.model.specs.Relations.{size, relation_count}
use Rattle.model.specs.Image.{Trailer, edition_1, relation_bytes, read_relations, bad_sizes, bad_layout, net_of, records_of, given_net}
use Rattle.model.proofs.Tests.{or_four}
use Rattle.model.proofs.Accepts.{agreed, relations_written, length_read}
use Rattle.relations.proofs.Lists.{few_contexts, few_relations}
use Rattle.image.specs.Trailers.{LaidOut}

-- a list whose every element is below 256 is one of bytes
pub bytes_each : (l : List ℕ) → ((i : ℕ) → get_or l i 0 < 256) → Each IsByte l
bytes_each [] h = nil
bytes_each (x ∷ xs) h = cons (h 0) (bytes_each xs (λ i. h (suc i)))

-- the chunks of so many bytes
chunks_part : (k : ℕ) (bs : List ℕ) → first_chunks 3 k (take (3 * k) bs) ≡ first_chunks 3 k bs
chunks_part zero bs = refl
chunks_part (suc k) bs =
    let n : ℕ = 3 * suc k in
    let e : n - 3 ≡ 3 * k = omega arith in
    ap₂ (λ (x : List ℕ) (xs : List (List ℕ)). x ∷ xs) (take-take 3 n bs (omega arith))
    (ap (first_chunks 3 k) (sym (between_is bs 3 n) ∙ ap (λ (m : ℕ). take m (drop 3 bs)) e) ∙ chunks_part k (drop 3 bs))

relations_part : (k : ℕ) (bs : List ℕ) → read_relations edition_1 k (take (3 * k) bs) ≡ read_relations edition_1 k bs
relations_part k bs = relations_read k (take (3 * k) bs) ∙ ap relations_of (chunks_part k bs) ∙ sym (relations_read k bs)

module _ (img : List ℕ) (e : Trailer) where
  pub laid_out : bad_sizes edition_1 e.n e.r ≡ false → bad_layout edition_1 img e ≡ false → LaidOut img e
  unfolding bad_layout
  laid_out sizes layout =
      let q =
      or_four (not (eqb e.to_relations (3 * e.r + 49 * e.t))) (not (eqb e.to_records (49 * e.t)))
      (not (eqb (length img) (e.n + 3 * e.r + 49 * e.t + 8))) (not (eqb e.padding 0)) layout in
      record {
        contexts = few_contexts e.n e.r sizes;
        relations = few_relations e.n e.r sizes;
        to_relations = agreed e.to_relations _ q.0;
        to_records = agreed e.to_records _ q.1;
        whole = agreed (length img) _ q.2;
      }

  module _ (laid : LaidOut img e) where
    -- where the trailer and the two parts that it points to begin
    abbrev end : ℕ
    end = length img - 8

    abbrev first : ℕ
    first = end - e.to_relations

    abbrev second : ℕ
    second = end - e.to_records

    -- the relations, as they stand there
    pub length_relations : length (take (second - first) (drop first img)) ≡ 3 * e.r
    length_relations =
        length-take-le (second - first) (drop first img) (omega (arith, length-drop first img, laid.to_relations, laid.to_records, laid.whole))
        ∙ omega (arith, laid.to_relations, laid.to_records, laid.whole)

    pub relations_are : given_net edition_1 (net_of edition_1 img e).caps (take (second - first) (drop first img)) ≡ net_of edition_1 img e
    unfolding net_of
    relations_are =
        let k : second - first ≡ 3 * e.r = omega (arith, laid.to_relations, laid.to_records, laid.whole) in
        let n : length (take (second - first) (drop first img)) / 3 ≡ e.r = omega (arith, length_relations) in
        λ i. record {
          caps = take e.n img;
          rels = (ap₂ (λ (r m : ℕ). read_relations edition_1 r (take m (drop first img))) n k ∙ relations_part e.r (drop first img)) i;
        }

    pub records_are : take (second + e.to_records - second) (drop second img) ≡ records_of edition_1 img e
    unfolding records_of
    records_are = let k : second + e.to_records - second ≡ 49 * e.t = omega (arith, laid.to_records, laid.whole) in ap (λ (k : ℕ). take k (drop second img)) k

    -- how many contexts and relations there are
    pub sizes_are : e.n ∷ e.r ∷ [] ≡ size (net_of edition_1 img e) ∷ relation_count (net_of edition_1 img e) ∷ []
    unfolding net_of
    sizes_are =
        let n = length-take-le e.n img (omega (arith, laid.whole)) in
        let r = length_read edition_1 e.r (drop first img) in
        λ i. sym n i ∷ sym r i ∷ []

    -- the capacities and the relations, byte for byte
    pub list_found : take second img ≡ take (e.n + 3 * e.r) img
    list_found = let k : second ≡ e.n + 3 * e.r = omega (arith, laid.to_records, laid.whole) in ap (λ (n : ℕ). take n img) k

    pub list_is : Each IsByte img → take (e.n + 3 * e.r) img ≡ (net_of edition_1 img e).caps ++ concat_map (relation_bytes edition_1) (net_of edition_1 img e).rels
    unfolding net_of
    list_is all =
        let f : first ≡ e.n = omega (arith, laid.to_relations, laid.whole) in
        take-add e.n (3 * e.r) img
        ∙ ap (λ (l : List ℕ). take e.n img ++ l)
        (ap (λ (n : ℕ). take (3 * e.r) (drop n img)) (sym f)
        ∙ sym (relations_written edition_1 e.r (drop first img) (omega (arith, length-drop first img, laid.to_relations, laid.whole)) (each_drop first all)))
