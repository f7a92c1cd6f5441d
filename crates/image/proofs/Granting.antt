-- What a granted load says of an image, the first refusal, and what the trailer's bytes say.
-- Assumes nothing.
use Prim.Native.Nat.{ℕ, zero, suc, ◌+◌, ◌-◌, ◌*◌, ◌<◌, ◌≤◌}
use native.Mathlib.Omega.{arith}
use mathlib.Core.Path.{◌≡◌, sym, subst, ap, ◌∙◌}
use mathlib.Core.Bool.{cond}
use mathlib.Core.List.{List, [], ◌∷◌, ◌++◌, map}
use borrow.Author.Tests.{lt-ltb, ltb-false}
use lib.ListN.{length, get_or, take, drop, length-drop, drop_of_length-le}
use lib.Seq.{drop-cons, length-take-le}
use Rattle.model.specs.Sets.{Each, cons, IsByte, range}
use Rattle.model.specs.Refusals.{is_granted}
use Rattle.model.specs.Relations.{empty_net}
use Rattle.model.specs.Image.{Trailer, edition_1, read, trailer_from, trailer_fields, trailer_of, net_of, records_of, load_checks, load}
use Rattle.model.specs.Claims.{Passes}
use Rattle.model.specs.declared.Refusal.TheVariants.{ShortImage}
use Rattle.model.specs.declared.Verdict.{Verdict}
use Rattle.model.specs.declared.Verdict.TheVariants.{Granted, Refused}
use Rattle.model.proofs.Checks.{granted_passes}
use Rattle.image.specs.Trailers.{LaidOut}
use Rattle.image.specs.Listing.{listing}
use Rattle.image.proofs.Layouts.{laid_out, sizes_are, list_is}

-- a list is its elements, one by one
elements_from : (l : List ℕ) (k j : ℕ) → length l ≡ j + k → drop j l ≡ map (λ i. get_or l i 0) (range j k)
elements_from l zero j h = drop_of_length-le l {i = j} (omega arith)
elements_from l (suc k) j h = drop-cons l j 0 (omega arith) ∙ ap (λ (s : List ℕ). get_or l j 0 ∷ s) (elements_from l k (suc j) (omega arith))

-- what eight bytes say as a trailer
pub trailer_read : (l : List ℕ) → length l ≡ 8 → trailer_from (read (trailer_fields edition_1) l)
    ≡ record {
      to_relations = get_or l 0 0 + 256 * get_or l 1 0;
      to_records = get_or l 2 0 + 256 * get_or l 3 0;
      n = get_or l 4 0;
      r = get_or l 5 0;
      t = get_or l 6 0;
      padding = 0;
      edition = get_or l 7 0;
    }
trailer_read l h =
    ap (λ (s : List ℕ). trailer_from (read (trailer_fields edition_1) s)) (elements_from l 8 0 (omega arith))
    ∙ (λ i. record {
      to_relations = two (get_or l 0 0) (get_or l 1 0) i;
      to_records = two (get_or l 2 0) (get_or l 3 0) i;
      n = one (get_or l 4 0) i;
      r = one (get_or l 5 0) i;
      t = one (get_or l 6 0) i;
      padding = 0;
      edition = one (get_or l 7 0) i;
    })
  where
    one : (x : ℕ) → x + 256 * 0 ≡ x
    one x = omega arith

    two : (x y : ℕ) → x + 256 * (y + 256 * 0) ≡ x + 256 * y
    two x y = omega arith

-- the parts of an image that is laid out have their sizes
module _ (img : List ℕ) (e : Trailer) (laid : LaidOut img e) where
  pub length_records : length (records_of edition_1 img e) ≡ 49 * e.t
  unfolding records_of
  length_records =
      let second : ℕ = length img - 8 - e.to_records in
      let d = length-drop second img in
      length-take-le (49 * e.t) (drop second img) (omega (arith, laid.to_records, laid.whole))

  pub length_capacities : (n : ℕ) → n ≡ e.n → length (take n img) ≡ n
  length_capacities n n_is = length-take-le n img (omega (arith, laid.whole))

module _ (img : List ℕ) where
  -- an image with no room for a trailer
  pub short_refused : length img < 8 → (load edition_1 img).verdict ≡ Refused ShortImage
  unfolding load
  short_refused h = rw (lt-ltb (length img) 8 h)

  -- a load that is granted: the image is laid out as its trailer says, and its net and its record section are handed back
  pub record Granting : Type 0 where
    pub long : 8 ≤ length img
    pub laid : LaidOut img (trailer_of edition_1 img)
    pub net : (load edition_1 img).net ≡ net_of edition_1 img (trailer_of edition_1 img)
    pub part : (load edition_1 img).part ≡ records_of edition_1 img (trailer_of edition_1 img)

  pub granting : (load edition_1 img).verdict ≡ Granted → Granting
  unfolding load
  granting g = go (granted_passes (load_checks edition_1 img) g)
    where
      go : Each Passes (load_checks edition_1 img) → Granting
      go (cons p1 (cons p2 (cons p3 (cons p4 ps)))) =
          record {
            long = ltb-false (length img) 8 p1;
            laid = laid_out img (trailer_of edition_1 img) p3 p4;
            net = ap (λ (v : Verdict). cond (is_granted v) (net_of edition_1 img (trailer_of edition_1 img)) empty_net) g;
            part = ap (λ (v : Verdict). cond (is_granted v) (records_of edition_1 img (trailer_of edition_1 img)) []) g;
          }

  pub laid_by : {e : Trailer} → (load edition_1 img).verdict ≡ Granted → e ≡ trailer_of edition_1 img → LaidOut img e
  laid_by g e_is = subst (LaidOut img) (sym e_is) (granting g).laid

  pub net_by : {e : Trailer} → (load edition_1 img).verdict ≡ Granted → e ≡ trailer_of edition_1 img → net_of edition_1 img e ≡ (load edition_1 img).net
  net_by g e_is = ap (net_of edition_1 img) e_is ∙ sym (granting g).net

  -- the list of a granted load, as it stands in the image
  pub listing_found : (load edition_1 img).verdict ≡ Granted → Each IsByte img → (e : Trailer) → e ≡ trailer_of edition_1 img
      → e.n ∷ e.r ∷ take (e.n + 3 * e.r) img ≡ listing (load edition_1 img).net
  unfolding listing
  listing_found g all e e_is =
      let laid = laid_by g e_is in
      (λ i. sizes_are img e laid i ++ list_is img e laid all i) ∙ ap listing (net_by g e_is)
