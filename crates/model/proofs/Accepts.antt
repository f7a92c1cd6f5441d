-- An image that loads is the image of the net that it gives, and that net is valid.
-- Assumes nothing.
use Prim.Native.Nat.{ℕ, zero, suc, ◌+◌, ◌-◌, ◌≤◌}
use native.Mathlib.Nat.{mul-suc, mul-zero}
use native.Mathlib.Omega.{arith}
use mathlib.Core.Path.{◌≡◌, refl, sym, subst, ap, ap₂, ◌∙◌}
use mathlib.Core.Bool.{false, not, cond}
use mathlib.Core.List.{List, [], ◌++◌}
use lib.Dec.{eqb}
use borrow.Author.Tests.{eqb-true, ltb-false, not-false}
use lib.ListN.{length, take, drop, length-drop, take-append-drop}
use lib.Seq.{drop-drop, take-add, take_all, length-take-le}
use Rattle.model.specs.Sets.{Each, nil, cons, IsByte, any, concat_map, equal_lists}
use Rattle.model.specs.Refusals.{Check, first_refusal, is_granted}
use Rattle.model.specs.Relations.{Net, size, relation_count, empty_net, has_zero, misfit, repeats}
use Rattle.model.specs.Transitions.{extra_transitions, transitions_of}
use Rattle.model.specs.Image.{Format, Trailer, Loaded, read, relation_fields, relation_size, relations_size, relation_bytes, records_size, records, trailer_fields, trailer_from, trailer_size, trailer_bytes, trailer, image, transition_count, bad_sizes, read_relations, trailer_start, trailer_of, bad_layout, net_of, records_of, other_records, load_checks, load_checks_by, load}
use Rattle.model.specs.Claims.{Fits, Valid, Usable, Accepted}
use Rattle.model.specs.declared.Verdict.{Verdict}
use Rattle.model.specs.declared.Verdict.TheVariants.{Granted, Refused}
use Rattle.model.proofs.Tests.{or_four, or_false_left, or_false_right, each_take, each_drop}
use Rattle.model.proofs.Checks.{granted_passes}
use Rattle.model.proofs.Fields.{write_read}
use Rattle.model.proofs.Sizes.{equal_true}
use Rattle.model.proofs.Images.{loads}

pub agreed : (x y : ℕ) → not (eqb x y) ≡ false → x ≡ y
agreed x y e = eqb-true x y (not-false (eqb x y) e)

split_in_four : (l : List ℕ) (a b c : ℕ) → take a l ++ (take b (drop a l) ++ (take c (drop (a + b) l) ++ drop (a + b + c) l)) ≡ l
split_in_four l a b c =
    ap (λ (z : List ℕ). take a l ++ (take b (drop a l) ++ (take c (drop (a + b) l) ++ z))) (sym (drop-drop c (a + b) l))
    ∙ ap (λ (z : List ℕ). take a l ++ (take b (drop a l) ++ z)) (take-append-drop c (drop (a + b) l) ∙ sym (drop-drop b a l))
    ∙ ap (λ (z : List ℕ). take a l ++ z) (take-append-drop b (drop a l))
    ∙ take-append-drop a l

module _ (f : Format) where
  pub length_read : (r : ℕ) (bs : List ℕ) → length (read_relations f r bs) ≡ r
  length_read zero bs = refl
  length_read (suc r) bs = ap suc (length_read r (drop (relation_size f) bs))

  -- the bytes of the relations that bytes hold
  pub relations_written : (r : ℕ) (bs : List ℕ) → relations_size f r ≤ length bs → Each IsByte bs
      → concat_map (relation_bytes f) (read_relations f r bs) ≡ take (relations_size f r) bs
  unfolding relation_bytes
  relations_written zero bs h all = ap (λ (k : ℕ). take k bs) (sym (mul-zero (relation_size f)))
  relations_written (suc r) bs h all =
      let s = relation_size f in
      let p = mul-suc s r in
      let d = length-drop s bs in
      let q : s + relations_size f r ≡ relations_size f (suc r) = omega arith in
      ap₂ (λ (a b : List ℕ). a ++ b) (write_read (relation_fields f) bs (omega arith) all)
      (relations_written r (drop s bs) (omega arith) (each_drop s all))
      ∙ sym (take-add s (relations_size f r) bs)
      ∙ ap (λ (k : ℕ). take k bs) q

  trailer_written : (bs : List ℕ) → length bs ≡ trailer_size f → Each IsByte bs → trailer_bytes f (trailer_from (read (trailer_fields f) bs)) ≡ bs
  unfolding trailer_bytes
  trailer_written bs h all = write_read (trailer_fields f) bs (omega arith) all ∙ take_all (trailer_size f) bs (omega arith)

-- what an image that loads has passed
record Tests (f : Format) (img : List ℕ) (e : Trailer) : Type 0 where
  long : trailer_size f ≤ length img
  edition_is : e.edition ≡ f.edition
  sizes : bad_sizes f e.n e.r ≡ false
  to_relations : e.to_relations ≡ relations_size f e.r + records_size f e.t
  to_records : e.to_records ≡ records_size f e.t
  whole : length img ≡ e.n + relations_size f e.r + records_size f e.t + trailer_size f
  padding : e.padding ≡ 0
  caps : has_zero (net_of f img e).caps ≡ false
  fits : any (misfit (size (net_of f img e))) (net_of f img e).rels ≡ false
  once : repeats (net_of f img e).rels ≡ false
  t_is : e.t ≡ transition_count (net_of f img e)
  records_are : records_of f img e ≡ records f (net_of f img e)

tests : (f : Format) (img : List ℕ) (e : Trailer) → first_refusal (load_checks_by f img e) ≡ Granted → Tests f img e
unfolding bad_layout other_records
tests f img e h = go (granted_passes (load_checks_by f img e) h)
  where
    go : Each (λ (x : Check). x.broken ≡ false) (load_checks_by f img e) → Tests f img e
    go (cons p1 (cons p2 (cons p3 (cons p4 (cons p5 (cons p6 (cons p7 (cons p9 nil)))))))) =
        let q =
        or_four (not (eqb e.to_relations (relations_size f e.r + records_size f e.t))) (not (eqb e.to_records (records_size f e.t)))
        (not (eqb (length img) (e.n + relations_size f e.r + records_size f e.t + trailer_size f))) (not (eqb e.padding 0)) p4 in
        record {
          long = ltb-false (length img) (trailer_size f) p1;
          edition_is = agreed e.edition f.edition p2;
          sizes = p3;
          to_relations = agreed e.to_relations _ q.0;
          to_records = agreed e.to_records _ q.1;
          whole = agreed (length img) _ q.2;
          padding = agreed e.padding 0 q.3;
          caps = p5;
          fits = p6;
          once = p7;
          t_is = agreed e.t (transition_count (net_of f img e)) (or_false_left _ (not (equal_lists (records_of f img e) (records f (net_of f img e)))) p9);
          records_are =
              equal_true (records_of f img e) (records f (net_of f img e))
              (not-false _ (or_false_right (not (eqb e.t (transition_count (net_of f img e)))) _ p9));
        }

module _ (f : Format) (img : List ℕ) (e : Trailer) (v : Tests f img e) where
  abbrev net : Net
  net = net_of f img e

  abbrev relations_at : ℕ
  relations_at = trailer_start f img - e.to_relations

  relations_start : relations_at ≡ e.n
  relations_start = let p = v.to_relations in let w = v.whole in omega arith

  records_start : trailer_start f img - e.to_records ≡ e.n + relations_size f e.r
  records_start = let p = v.to_records in let w = v.whole in omega arith

  caps_length : size net ≡ e.n
  unfolding net_of
  caps_length = let w = v.whole in length-take-le e.n img (omega arith)

  rels_length : relation_count net ≡ e.r
  unfolding net_of
  rels_length = length_read f e.r (drop relations_at img)

  net_valid : Each IsByte img → Valid f net
  unfolding net_of
  net_valid all =
      record {
        sizes = ap₂ (bad_sizes f) caps_length rels_length ∙ v.sizes;
        bytes = each_take e.n all;
        caps = v.caps;
        fits = v.fits;
        once = v.once;
      }

  trailer_again : Each IsByte img → e ≡ trailer_of f img
      → trailer_bytes f (trailer f (size net) (relation_count net) (transition_count net)) ≡ drop (e.n + relations_size f e.r + records_size f e.t) img
  unfolding trailer trailer_of
  trailer_again all e_is =
      let w = v.whole in
      let p : trailer_start f img ≡ e.n + relations_size f e.r + records_size f e.t = omega arith in
      let l : length (drop (trailer_start f img) img) ≡ trailer_size f = let q = length-drop (trailer_start f img) img in omega arith in
      let s : trailer f (size net) (relation_count net) (transition_count net) ≡ e =
      (λ i. trailer f (caps_length i) (rels_length i) (sym v.t_is i))
      ∙ (λ i. record {
        to_relations = sym v.to_relations i;
        to_records = sym v.to_records i;
        n = e.n;
        r = e.r;
        t = e.t;
        padding = sym v.padding i;
        edition = sym v.edition_is i;
      }) in
      ap (trailer_bytes f) (s ∙ e_is)
      ∙ trailer_written f (drop (trailer_start f img) img) l (each_drop (trailer_start f img) all)
      ∙ ap (λ (k : ℕ). drop k img) p

  image_again : Each IsByte img → e ≡ trailer_of f img → image f net ≡ img
  unfolding image net_of records_of
  image_again all e_is =
      let w = v.whole in
      let d = length-drop relations_at img in
      let s = relations_start in
      let x : concat_map (relation_bytes f) net.rels ≡ take (relations_size f e.r) (drop e.n img) =
      relations_written f e.r (drop relations_at img) (omega arith) (each_drop relations_at all)
      ∙ ap (λ (k : ℕ). take (relations_size f e.r) (drop k img)) s in
      let y : records f net ≡ take (records_size f e.t) (drop (e.n + relations_size f e.r) img) =
      sym v.records_are ∙ ap (λ (k : ℕ). take (records_size f e.t) (drop k img)) records_start in
      let z = trailer_again all e_is in
      (λ i. take e.n img ++ (x i ++ (y i ++ z i))) ∙ split_in_four img e.n (relations_size f e.r) (records_size f e.t)

module _ (f : Format) (img : List ℕ) where
  abbrev loaded_by : Verdict → Loaded
  loaded_by v =
      record {
        verdict = v;
        net = cond (is_granted v) (net_of f img (trailer_of f img)) empty_net;
        part = cond (is_granted v) (records_of f img (trailer_of f img)) [];
      }

  -- whatever loading accepts is the composed image of the list that it gives back, and that list is valid
  pub accepts : Each IsByte img → (load f img).verdict ≡ Granted → Accepted f img (load f img)
  unfolding load
  accepts all g =
      let v = tests f img (trailer_of f img) g in
      subst (Accepted f img) (sym (ap loaded_by g))
      (record { is_image = image_again f img (trailer_of f img) v all refl; valid = net_valid f img (trailer_of f img) v all })

  -- every relation of a loaded net fits it, whatever the image
  pub loaded_fits : Fits (load f img).net
  unfolding load
  loaded_fits = go (first_refusal (load_checks f img)) refl
    where
      go : (v : Verdict) → first_refusal (load_checks f img) ≡ v → Fits (loaded_by v).net
      go Granted g = (tests f img (trailer_of f img) g).fits
      go (Refused k) g = refl

  -- the part that a load hands back is the records of the net that it gives, whatever the image
  pub part_exact : (load f img).part ≡ records f (load f img).net
  unfolding load records transitions_of extra_transitions
  part_exact = go (first_refusal (load_checks f img)) refl
    where
      go : (v : Verdict) → first_refusal (load_checks f img) ≡ v → (loaded_by v).part ≡ records f (loaded_by v).net
      go Granted g = (tests f img (trailer_of f img) g).records_are
      go (Refused k) g = refl

-- two valid lists with the same image are the same list
pub image_injective : (f : Format) → Usable f → (x y : Net) → Valid f x → Valid f y → image f x ≡ image f y → x ≡ y
image_injective f u x y vx vy e = ap (λ (l : Loaded). l.net) (sym (loads f u x vx) ∙ ap (load f) e ∙ loads f u y vy)
