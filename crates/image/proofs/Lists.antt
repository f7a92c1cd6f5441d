-- What is listed, by the verdict of loading and by whether there is room.
-- Assumes nothing.
use Rattle.std.proofs.Common.{◌≡◌, ℕ, ◌+◌, ◌<◌, ◌≤◌, Bool, cond, ◌&&◌, List, ◌++◌, leb, length, get_or, drop, arith, subst, sym, ap, ap₂, ◌∙◌, le-leb}
use borrow.Author.Tests.{lt-leb}
use Rattle.model.specs.Refusals.{is_granted}
use Rattle.model.specs.Image.{edition_1, relation_bytes, load}
use Rattle.model.specs.declared.Refusal.{Refusal}
use Rattle.model.specs.declared.Verdict.{Verdict}
use Rattle.model.specs.declared.Verdict.TheVariants.{Granted, Refused}
use Rattle.model.specs.Sets.{Each, IsByte, concat_map}
use Rattle.model.specs.Relations.{Net}
use Rattle.image.specs.Trailers.{trailer_as}
use Rattle.image.specs.Images.{net_in, list_in}
use Rattle.image.specs.Listing.{Listed, listing, listed}
use Rattle.image.specs.declared.laid.LaidImage.{LaidImage}
use Rattle.image.proofs.Layouts.{list_is, bytes_each}

module _ (img out : List ℕ) where
  abbrev list : List ℕ
  list = listing (load edition_1 img).net

  abbrev listed_by : Verdict → Bool → Listed
  listed_by v room =
      record {
        verdict = v;
        written = cond (is_granted v && room) (length list) 0;
        output = cond (is_granted v && room) (list ++ drop (length list) out) out;
      }

  pub refused_listed : (k : Refusal) → (load edition_1 img).verdict ≡ Refused k → listed img out ≡ record { verdict = Refused k; written = 0; output = out }
  unfolding listed
  refused_listed k g = ap (λ (v : Verdict). listed_by v (leb (length list) (length out))) g

  module _ (g : (load edition_1 img).verdict ≡ Granted) where
    pub short_listed : length out < length list → listed img out ≡ record { verdict = Granted; written = 0; output = out }
    unfolding listed
    short_listed h = ap₂ listed_by g (lt-leb (length list) (length out) h)

    pub whole_listed : length list ≤ length out → listed img out ≡ record { verdict = Granted; written = length list; output = list ++ drop (length list) out }
    unfolding listed
    whole_listed h = ap₂ listed_by g (le-leb (length list) (length out) h)

-- the part of an image that is listed, and how long the list is
pub part_found : (img : List ℕ) (laid : LaidImage) {part : List ℕ} → ((i : ℕ) → get_or img i 0 < 256) → laid.bytes.now ≡ img → part ≡ list_in laid
    → part ≡ (net_in laid).caps ++ concat_map (relation_bytes edition_1) (net_in laid).rels
part_found img laid all bytes_are part_is =
    part_is
    ∙ list_is laid.bytes.now (trailer_as laid.trailer) laid.laid (subst (Each IsByte) (sym bytes_are) (bytes_each img all))

pub length_listing : (net : Net) {part : List ℕ} → part ≡ net.caps ++ concat_map (relation_bytes edition_1) net.rels → length (listing net) ≡ length part + 2
unfolding listing
length_listing net e = let l = ap length e in omega arith
