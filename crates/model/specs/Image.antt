-- docs/MACHINE.md, "The image", with refusals 1 to 9: the bytes of a net, composing and loading. Everything is stated for a format, so that a
-- wider edition is another value of it.
-- Assumes nothing.
use Rattle.std.specs.Prelude.{ℕ, zero, suc, ◌+◌, ◌*◌, ◌-◌, ◌/◌, ◌%◌, Bool, ◌||◌, not, cond, List, [], ◌∷◌, ◌++◌, map, eqb, ltb, length, get_or, take, drop}
use Rattle.model.specs.Sets.{Set, from, number, any, concat_map, range, sum, equal_lists}
use Rattle.model.specs.Refusals.{Check, refuse, first_refusal, is_granted}
use Rattle.model.specs.Relations.{Net, size, relation_count, empty_net, has_zero, misfit, repeats}
use Rattle.model.specs.declared.Relation.{Relation}
use Rattle.model.specs.Transitions.{Transition, transitions}
use Rattle.model.specs.declared.Verdict.{Verdict}
use Rattle.model.specs.declared.Refusal.TheVariants.{ShortImage, OtherEdition, WrongSizes, WrongLayout, ZeroCapacity, WrongRelation, RepeatedRelation, ShortOutput, WrongRecords}

-- What an edition fixes: its number; the limits of n and r; and, in bytes, the width of a relation's end, of a set, of a distance, of each
-- of n, r and t, and of the zero that may stand before the edition.
pub record Format : Type 0 where
  pub edition : ℕ
  pub max_contexts : ℕ
  pub max_relations : ℕ
  pub end_bytes : ℕ
  pub set_width : ℕ
  pub distance_bytes : ℕ
  pub count_bytes : ℕ
  pub zero_bytes : ℕ

-- the format of edition 1
abbrev pub edition_1 : Format
edition_1 =
    record {
      edition = 1;
      max_contexts = 48;
      max_relations = 96;
      end_bytes = 1;
      set_width = 6;
      distance_bytes = 2;
      count_bytes = 1;
      zero_bytes = 0;
    }

-- The format of a wider edition. No code uses it: it is here so that the theorems about images are held to two formats.
abbrev pub edition_2 : Format
edition_2 =
    record {
      edition = 2;
      max_contexts = 300;
      max_relations = 600;
      end_bytes = 2;
      set_width = 38;
      distance_bytes = 4;
      count_bytes = 2;
      zero_bytes = 1;
    }

-- k bytes of x, the low byte first, and the number that bytes in this order make
abbrev pub bytes : ℕ → ℕ → List ℕ
bytes zero x = []
bytes (suc k) x = x % 256 ∷ bytes k (x / 256)

abbrev pub from_bytes : List ℕ → ℕ
from_bytes [] = 0
from_bytes (b ∷ bs) = b + 256 * from_bytes bs

-- numbers in fields of these widths, one behind the other, and how they are read back
abbrev pub write : List ℕ → List ℕ → List ℕ
write [] xs = []
write (w ∷ ws) [] = []
write (w ∷ ws) (x ∷ xs) = bytes w x ++ write ws xs

abbrev pub read : List ℕ → List ℕ → List ℕ
read [] bs = []
read (w ∷ ws) bs = from_bytes (take w bs) ∷ read ws (drop w bs)

-- A set in w bytes: byte i has the eight contexts from 8i on, the lowest in its lowest bit. (Theorems set_bit and unused_bits say it bit by
-- bit.)
unfoldable pub set_bytes : ℕ → Set → List ℕ
set_bytes w f = map (λ i. number 8 (from (8 * i) f)) (range 0 w)

-- A transition's record: its priority, then its eight sets in w bytes each.
unfoldable pub record_bytes : ℕ → Transition → List ℕ
record_bytes w t =
    t.priority
    ∷ set_bytes w t.takes_context
    ++ set_bytes w t.takes_pr
    ++ set_bytes w t.takes_not
    ++ set_bytes w t.gives_context
    ++ set_bytes w t.gives_pr
    ++ set_bytes w t.gives_not
    ++ set_bytes w t.inhib_context
    ++ set_bytes w t.inhib_pr

-- a relation's fields: the kind and the two ends
abbrev pub relation_fields : Format → List ℕ
relation_fields f = 1 ∷ f.end_bytes ∷ f.end_bytes ∷ []

-- a relation in bytes, and the relation of three numbers
unfoldable pub relation_bytes : Format → Relation → List ℕ
relation_bytes f r = write (relation_fields f) (r.kind ∷ r.a ∷ r.b ∷ [])

abbrev pub relation_from : List ℕ → Relation
relation_from xs = record { kind = get_or xs 0 0; a = get_or xs 1 0; b = get_or xs 2 0 }

-- What stands in a trailer, in this order. A distance is how far before the trailer the relations, or the records, begin. The padding has no
-- byte in edition 1.
pub record Trailer : Type 0 where
  pub to_relations : ℕ
  pub to_records : ℕ
  pub n : ℕ
  pub r : ℕ
  pub t : ℕ
  pub padding : ℕ
  pub edition : ℕ

-- the widths of the trailer's fields
abbrev pub trailer_fields : Format → List ℕ
trailer_fields f =
    f.distance_bytes
    ∷ f.distance_bytes
    ∷ f.count_bytes
    ∷ f.count_bytes
    ∷ f.count_bytes
    ∷ f.zero_bytes
    ∷ 1
    ∷ []

-- a trailer in bytes, and the trailer of seven numbers
unfoldable pub trailer_bytes : Format → Trailer → List ℕ
trailer_bytes f e =
    write (trailer_fields f) (e.to_relations ∷ e.to_records ∷ e.n ∷ e.r ∷ e.t ∷ e.padding ∷ e.edition ∷ [])

abbrev pub trailer_from : List ℕ → Trailer
trailer_from xs =
    record {
      to_relations = get_or xs 0 0;
      to_records = get_or xs 1 0;
      n = get_or xs 2 0;
      r = get_or xs 3 0;
      t = get_or xs 4 0;
      padding = get_or xs 5 0;
      edition = get_or xs 6 0;
    }

-- the bytes of one relation, of one record and of the trailer: 3, 49 and 8 in edition 1
abbrev pub relation_size : Format → ℕ
relation_size f = sum (relation_fields f)

abbrev pub record_size : Format → ℕ
record_size f = 1 + 8 * f.set_width

abbrev pub trailer_size : Format → ℕ
trailer_size f = sum (trailer_fields f)

-- the bytes of r relations and of t records
abbrev pub relations_size : Format → ℕ → ℕ
relations_size f r = relation_size f * r

abbrev pub records_size : Format → ℕ → ℕ
records_size f t = record_size f * t

-- the trailer that n contexts, r relations and t transitions must have
unfoldable pub trailer : Format → ℕ → ℕ → ℕ → Trailer
trailer f n r t =
    record {
      to_relations = relations_size f r + records_size f t;
      to_records = records_size f t;
      n = n;
      r = r;
      t = t;
      padding = 0;
      edition = f.edition;
    }

-- t, the number of transitions
abbrev pub transition_count : Net → ℕ
transition_count net = length (transitions net)

-- the record section: the records in the order of the numbers
unfoldable pub records : Format → Net → List ℕ
records f net = concat_map (record_bytes f.set_width) (transitions net)

-- The one image of a net: capacities, relations, records, trailer.
unfoldable pub image : Format → Net → List ℕ
image f net =
    net.caps
    ++ (concat_map (relation_bytes f) net.rels
    ++ (records f net
    ++ trailer_bytes f (trailer f (size net) (relation_count net) (transition_count net))))

-- what refusal 3 looks for in n and r
unfoldable pub bad_sizes : Format → ℕ → ℕ → Bool
bad_sizes f n r = eqb n 0 || ltb f.max_contexts n || ltb f.max_relations r

-- the checks that composing and loading share: 5, 6 and 7, each over the whole list before the next
abbrev pub net_checks : Net → List Check
net_checks net =
    refuse ZeroCapacity (has_zero net.caps)
    ∷ refuse WrongRelation (any (misfit (size net)) net.rels)
    ∷ refuse RepeatedRelation (repeats net.rels)
    ∷ []

-- the first r relations that the bytes hold
abbrev pub read_relations : Format → ℕ → List ℕ → List Relation
read_relations f zero bs = []
read_relations f (suc r) bs = relation_from (read (relation_fields f) bs) ∷ read_relations f r (drop (relation_size f) bs)

-- the net that composing is asked for; bytes behind the last whole relation are refused before they matter
abbrev pub given_net : Format → List ℕ → List ℕ → Net
given_net f caps bs = record { caps = caps; rels = read_relations f (length bs / relation_size f) bs }

-- the checks of composing into an output of this length: 3, 5, 6, 7, 8
abbrev pub compose_checks : Format → List ℕ → List ℕ → ℕ → List Check
compose_checks f caps bs room =
    refuse WrongSizes (bad_sizes f (length caps) (length bs / relation_size f) || not (eqb (length bs % relation_size f) 0))
    ∷ net_checks (given_net f caps bs)
    ++ (refuse ShortOutput (ltb room (length (image f (given_net f caps bs)))) ∷ [])

-- What composing gives: a verdict, the number of bytes written (0 where it is refused), and what the output then holds.
pub record Composed : Type 0 where
  pub verdict : Verdict
  pub written : ℕ
  pub output : List ℕ

-- Composing. The output's bytes behind the image stay, and all of them where it is refused.
unfoldable pub compose : Format → (caps relations output : List ℕ) → Composed
compose f caps bs out =
    let v = first_refusal (compose_checks f caps bs (length out)) in
    let img = image f (given_net f caps bs) in
    record {
      verdict = v;
      written = cond (is_granted v) (length img) 0;
      output = cond (is_granted v) (img ++ drop (length img) out) out;
    }

-- where an image's trailer starts
abbrev pub trailer_start : Format → List ℕ → ℕ
trailer_start f img = length img - trailer_size f

-- the trailer that an image ends in
unfoldable pub trailer_of : Format → List ℕ → Trailer
trailer_of f img = trailer_from (read (trailer_fields f) (drop (trailer_start f img) img))

-- What refusal 4 looks for. It believes the trailer's n, r and t; whether t is right is left to 9.
unfoldable pub bad_layout : Format → List ℕ → Trailer → Bool
bad_layout f img e =
    not (eqb e.to_relations (relations_size f e.r + records_size f e.t))
    || not (eqb e.to_records (records_size f e.t))
    || not (eqb (length img) (e.n + relations_size f e.r + records_size f e.t + trailer_size f))
    || not (eqb e.padding 0)

-- the net that an image names: its capacity bytes, and the relations found through the trailer
unfoldable pub net_of : Format → List ℕ → Trailer → Net
net_of f img e =
    record {
      caps = take e.n img;
      rels = read_relations f e.r (drop (trailer_start f img - e.to_relations) img);
    }

-- the bytes that the trailer says are the records
unfoldable pub records_of : Format → List ℕ → Trailer → List ℕ
records_of f img e = take (records_size f e.t) (drop (trailer_start f img - e.to_records) img)

-- what refusal 9 looks for
unfoldable pub other_records : Format → List ℕ → Trailer → Bool
other_records f img e =
    not (eqb e.t (transition_count (net_of f img e))) || not (equal_lists (records_of f img e) (records f (net_of f img e)))

-- the checks of loading an image with this trailer: 1 to 7, then 9
abbrev pub load_checks_by : Format → List ℕ → Trailer → List Check
load_checks_by f img e =
    refuse ShortImage (ltb (length img) (trailer_size f))
    ∷ refuse OtherEdition (not (eqb e.edition f.edition))
    ∷ refuse WrongSizes (bad_sizes f e.n e.r)
    ∷ refuse WrongLayout (bad_layout f img e)
    ∷ net_checks (net_of f img e)
    ++ (refuse WrongRecords (other_records f img e) ∷ [])

-- with its own trailer
abbrev pub load_checks : Format → List ℕ → List Check
load_checks f img = load_checks_by f img (trailer_of f img)

-- What loading gives: a verdict, the net, and the record section as a part of the image.
pub record Loaded : Type 0 where
  pub verdict : Verdict
  pub net : Net
  pub part : List ℕ

-- Loading. Where it is refused, the net is the empty one and so is the part.
unfoldable pub load : Format → List ℕ → Loaded
load f img =
    let v = first_refusal (load_checks f img) in
    record {
      verdict = v;
      net = cond (is_granted v) (net_of f img (trailer_of f img)) empty_net;
      part = cond (is_granted v) (records_of f img (trailer_of f img)) [];
    }
