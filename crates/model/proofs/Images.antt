-- A valid net's image loads, and gives the net back, for any format whose fields are wide enough.
-- Assumes nothing.
use Prim.Native.Nat.{ℕ, suc, ◌+◌, ◌*◌, ◌-◌, ◌^◌, ◌<◌, ◌≤◌}
use native.Mathlib.Nat.{mul-le-mul_left, one-le-pow}
use native.Mathlib.Omega.{arith}
use mathlib.Core.Path.{◌≡◌, refl, sym, subst, ap, ap₂, ◌∙◌}
use mathlib.Core.Bool.{true, false, ◌||◌, not, cond}
use mathlib.Core.List.{List, [], ◌∷◌, ◌++◌, append_assoc, append-nil}
use lib.Dec.{eqb, ltb}
use borrow.Author.Tests.{eq-eqb, le-ltb, ltb-false}
use lib.ListN.{length, take, drop, length-append}
use lib.Seq.{take_at, drop_at}
use Rattle.model.specs.Sets.{Each, nil, cons, concat_map, equal_lists}
use Rattle.model.specs.Refusals.{refuse, first_refusal, is_granted}
use Rattle.model.specs.Relations.{Net, size, relation_count, empty_net, misfit}
use Rattle.model.specs.declared.Relation.{Relation}
use Rattle.model.specs.Image.{Format, Trailer, read, relation_fields, relation_from, relation_size, relations_size, relation_bytes, record_size, records_size, records, trailer_fields, trailer_from, trailer_size, trailer_bytes, trailer, image, transition_count, bad_sizes, net_checks, read_relations, trailer_start, trailer_of, bad_layout, net_of, records_of, other_records, load_checks, load_checks_by, load}
use Rattle.model.specs.Claims.{Valid, Usable, Passes}
use Rattle.model.specs.declared.Verdict.{Verdict}
use Rattle.model.specs.declared.Verdict.TheVariants.{Granted}
use Rattle.model.proofs.Tests.{or_none, or_false_left, or_false_right, any_false, each_map}
use Rattle.model.proofs.Checks.{passes_granted}
use Rattle.model.proofs.Ready.{fitting}
use Rattle.model.proofs.Fields.{InFields, none, field, read_write}
use Rattle.model.proofs.Sizes.{equal_refl, length_transitions, length_relation, length_relations, length_records, length_trailer, length_image}
use Rattle.model.specs.declared.Refusal.TheVariants.{WrongRecords}

pub agree : (x y : ℕ) → x ≡ y → not (eqb x y) ≡ false
agree x y p = ap not (eq-eqb x y p)

pub record Limits (f : Format) (n r : ℕ) : Type 0 where
  pub contexts : n ≤ f.max_contexts
  pub relations : r ≤ f.max_relations

pub limits : (f : Format) (n r : ℕ) → bad_sizes f n r ≡ false → Limits f n r
unfolding bad_sizes
limits f n r e =
    let a = eqb n 0 in
    let b = ltb f.max_contexts n in
    let c = ltb f.max_relations r in
    record {
      contexts = ltb-false f.max_contexts n (or_false_right a b (or_false_left (a || b) c e));
      relations = ltb-false f.max_relations r (or_false_right (a || b) c e);
    }

-- each context of a valid net has its bit in a set
pub context_bit : (f : Format) → Usable f → (net : Net) → Valid f net → (c : ℕ) → c < size net → c < 8 * f.set_width
context_bit f use_of net v c h =
    let b = limits f (size net) (relation_count net) v.sizes in
    let u = use_of.sets_fit in
    omega (arith, b.contexts)

-- four lists one behind the other, found from the last one's start
module _ (a b c d : List ℕ) where
  abbrev whole : List ℕ
  whole = a ++ (b ++ (c ++ d))

  length_whole : length whole ≡ length a + (length b + (length c + length d))
  length_whole = simp length-append

  pub fourth_part : drop (length whole - length d) whole ≡ d
  fourth_part =
      let p = length_whole in
      let q : length (a ++ (b ++ c)) ≡ length a + (length b + length c) = simp length-append in
      ap (drop (length whole - length d)) (ap (λ (l : List ℕ). a ++ l) (sym (append_assoc b c d)) ∙ sym (append_assoc a (b ++ c) d))
      ∙ drop_at (a ++ (b ++ c)) d (length whole - length d) (omega arith)

  pub from_third : (k : ℕ) → k ≡ length c → drop (length whole - length d - k) whole ≡ c ++ d
  from_third k e =
      let p = length_whole in
      let q = length-append a b in
      ap (drop (length whole - length d - k)) (sym (append_assoc a b (c ++ d)))
      ∙ drop_at (a ++ b) (c ++ d) (length whole - length d - k) (omega arith)

  pub from_second : (k : ℕ) → k ≡ length b + length c → drop (length whole - length d - k) whole ≡ b ++ (c ++ d)
  from_second k e = let p = length_whole in drop_at a (b ++ (c ++ d)) (length whole - length d - k) (omega arith)

module _ (f : Format) where
  -- what a relation's fields ask
  abbrev pub Encodable : Relation → Type 0
  Encodable r = InFields (relation_fields f) (r.kind ∷ r.a ∷ r.b ∷ [])

  pub relations_read : {rels : List Relation} → Each Encodable rels → (rest : List ℕ)
      → read_relations f (length rels) (concat_map (relation_bytes f) rels ++ rest) ≡ rels
  unfolding relation_bytes
  relations_read nil rest = refl
  relations_read (cons {x = r} {xs = rels} h hs) rest =
      let more = concat_map (relation_bytes f) rels ++ rest in
      let e : (relation_bytes f r ++ concat_map (relation_bytes f) rels) ++ rest ≡ relation_bytes f r ++ more =
      append_assoc (relation_bytes f r) (concat_map (relation_bytes f) rels) rest in
      ap (read_relations f (suc (length rels))) e
      ∙ ap₂ (λ (x : Relation) (l : List Relation). x ∷ l) (ap relation_from (read_write h more))
      (ap (read_relations f (length rels)) (drop_at (relation_bytes f r) more (relation_size f) (length_relation f r)) ∙ relations_read hs rest)

module _ (f : Format) (use_of : Usable f) (net : Net) (v : Valid f net) where
  abbrev n : ℕ
  n = size net

  abbrev r : ℕ
  r = relation_count net

  abbrev t : ℕ
  t = transition_count net

  abbrev e : Trailer
  e = trailer f n r t

  -- the image's parts
  abbrev relation_part : List ℕ
  relation_part = concat_map (relation_bytes f) net.rels

  abbrev trailer_part : List ℕ
  trailer_part = trailer_bytes f e

  distances : relations_size f r + records_size f t < 256 ^ f.distance_bytes
  distances =
      let b = limits f n r v.sizes in
      let h = length_transitions net in
      let p = mul-le-mul_left (relation_size f) b.relations in
      let m : t ≤ 2 * f.max_contexts + f.max_relations = omega (arith, b.contexts, b.relations) in
      let q = mul-le-mul_left (record_size f) m in
      let u = use_of.distances_fit in
      omega arith

  pub encodable : Each (Encodable f) net.rels
  encodable =
      each_map
      (λ x h.
      let g = fitting n x h in
      let b = limits f n r v.sizes in
      let u = use_of.ends_fit in
      field {x = x.kind} (omega (arith, g.most)) (field {x = x.a} (omega (arith, g.ends.left, b.contexts)) (field {x = x.b} (omega (arith, g.ends.right, b.contexts)) none)))
      (any_false (misfit n) net.rels v.fits)

  trailer_encodable : InFields (trailer_fields f) (e.to_relations ∷ e.to_records ∷ e.n ∷ e.r ∷ e.t ∷ e.padding ∷ e.edition ∷ [])
  unfolding trailer
  trailer_encodable =
      let d = distances in
      let b = limits f n r v.sizes in
      let h = length_transitions net in
      let u = use_of.numbers_fit in
      let c = use_of.edition_fits in
      field {w = f.distance_bytes} {x = relations_size f r + records_size f t} d
      (field {w = f.distance_bytes} {x = records_size f t} (omega arith)
      (field {w = f.count_bytes} {x = n} (omega (arith, b.contexts))
      (field {w = f.count_bytes} {x = r} (omega (arith, b.relations))
      (field {w = f.count_bytes} {x = t} (omega (arith, b.contexts, b.relations))
      (field {w = f.zero_bytes} {x = 0} (one-le-pow f.zero_bytes 256 (omega arith))
      (field {w = 1} {x = f.edition} (omega arith) none))))))

  trailer_read : trailer_of f (image f net) ≡ e
  unfolding trailer_of image trailer_bytes
  trailer_read =
      let p : trailer_start f (image f net) ≡ length (image f net) - length trailer_part = ap (λ (k : ℕ). length (image f net) - k) (sym (length_trailer f e)) in
      ap (λ (k : ℕ). trailer_from (read (trailer_fields f) (drop k (image f net)))) p
      ∙ ap (λ (l : List ℕ). trailer_from (read (trailer_fields f) l)) (fourth_part net.caps relation_part (records f net) trailer_part ∙ sym (append-nil trailer_part))
      ∙ ap trailer_from (read_write trailer_encodable [])

  net_found : net_of f (image f net) e ≡ net
  unfolding net_of image trailer
  net_found =
      let k = relations_size f r + records_size f t in
      let p : take n (image f net) ≡ net.caps = take_at net.caps _ n refl in
      let s : trailer_start f (image f net) - k ≡ length (image f net) - length trailer_part - k = ap (λ (x : ℕ). length (image f net) - x - k) (sym (length_trailer f e)) in
      let w : k ≡ length relation_part + length (records f net) = ap₂ (λ (x y : ℕ). x + y) (sym (length_relations f net.rels)) (sym (length_records f net)) in
      let q : read_relations f r (drop (trailer_start f (image f net) - k) (image f net)) ≡ net.rels =
      ap (λ (x : ℕ). read_relations f r (drop x (image f net))) s
      ∙ ap (read_relations f r) (from_second net.caps relation_part (records f net) trailer_part k w)
      ∙ relations_read f encodable (records f net ++ trailer_part) in
      λ i. record { caps = p i; rels = q i }

  records_found : records_of f (image f net) e ≡ records f net
  unfolding records_of image trailer
  records_found =
      let k = records_size f t in
      let s : trailer_start f (image f net) - k ≡ length (image f net) - length trailer_part - k = ap (λ (x : ℕ). length (image f net) - x - k) (sym (length_trailer f e)) in
      ap (λ (x : ℕ). take k (drop x (image f net))) s
      ∙ ap (take k) (from_third net.caps relation_part (records f net) trailer_part k (sym (length_records f net)))
      ∙ take_at (records f net) trailer_part k (length_records f net)

  layout : bad_layout f (image f net) e ≡ false
  unfolding bad_layout trailer
  layout =
      or_none
      (or_none (or_none (agree (relations_size f r + records_size f t) _ refl) (agree (records_size f t) _ refl))
      (agree (length (image f net)) (n + relations_size f r + records_size f t + trailer_size f) (let p = length_image f net in omega arith)))
      (agree 0 0 refl)

  records_agree : other_records f (image f net) e ≡ false
  unfolding other_records trailer
  records_agree =
      or_none (agree t (transition_count (net_of f (image f net) e)) (ap transition_count (sym net_found)))
      (ap not
      (subst (λ (l : List ℕ). equal_lists l (records f (net_of f (image f net) e)) ≡ true) (ap (records f) net_found ∙ sym records_found)
      (equal_refl (records f (net_of f (image f net) e)))))

  passes : Each Passes (load_checks_by f (image f net) e)
  unfolding trailer
  passes =
      let p = length_image f net in
      cons (le-ltb (length (image f net)) (trailer_size f) (omega arith))
      (cons (agree f.edition f.edition refl)
      (cons v.sizes
      (cons layout
      (subst (λ (x : Net). Each Passes (net_checks x ++ (refuse WrongRecords (other_records f (image f net) e) ∷ []))) (sym net_found)
      (cons v.caps (cons v.fits (cons v.once (cons records_agree nil))))))))

  granted : first_refusal (load_checks f (image f net)) ≡ Granted
  granted = ap (λ (x : Trailer). first_refusal (load_checks_by f (image f net) x)) trailer_read ∙ passes_granted passes

  -- loading the composed image gives the net back, and its records as the part that is handed back
  pub loads : load f (image f net) ≡ record { verdict = Granted; net = net; part = records f net }
  unfolding load
  loads =
      let p = ap (net_of f (image f net)) trailer_read ∙ net_found in
      let q = ap (records_of f (image f net)) trailer_read ∙ records_found in
      ap (λ (x : Verdict). record {
        verdict = x;
        net = cond (is_granted x) (net_of f (image f net) (trailer_of f (image f net))) empty_net;
        part = cond (is_granted x) (records_of f (image f net) (trailer_of f (image f net))) [];
      }) granted
      ∙ (λ i. record { verdict = Granted; net = p i; part = q i })
