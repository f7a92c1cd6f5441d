-- What composing grants is the image of a valid net, written to the output's start; and it grants every valid net that the output has room for.
-- Assumes nothing.
use Prim.Native.Nat.{ℕ, ◌/◌, ◌%◌, ◌≤◌}
use native.Mathlib.Nat.{mul-div_right, mul-mod_right}
use native.Mathlib.Omega.{arith}
use mathlib.Core.Path.{◌≡◌, sym, subst, ap, ap₂, ◌∙◌}
use mathlib.Core.Bool.{not, cond}
use mathlib.Core.List.{List, [], ◌∷◌, ◌++◌, append-nil}
use lib.Dec.{eqb, ltb}
use borrow.Author.Tests.{le-ltb, ltb-false}
use lib.ListN.{length, drop}
use Rattle.model.specs.Sets.{Each, nil, cons, IsByte, concat_map}
use Rattle.model.specs.Refusals.{refuse, is_granted}
use Rattle.model.specs.Relations.{Net, size, relation_count}
use Rattle.model.specs.Image.{Format, Composed, relation_size, relation_bytes, image, bad_sizes, net_checks, read_relations, given_net, compose_checks, compose}
use Rattle.model.specs.Claims.{Valid, Usable, Composes, Passes}
use Rattle.model.specs.declared.Verdict.{Verdict}
use Rattle.model.specs.declared.Verdict.TheVariants.{Granted}
use Rattle.model.proofs.Tests.{or_none, or_false_left}
use Rattle.model.proofs.Checks.{granted_passes, passes_granted}
use Rattle.model.proofs.Sizes.{length_relations}
use Rattle.model.proofs.Images.{agree, relations_read, encodable}
use Rattle.model.proofs.Accepts.{length_read}
use Rattle.model.specs.declared.Refusal.TheVariants.{ShortOutput}

-- composing, by its verdict
abbrev composed_by : (f : Format) (net : Net) (out : List ℕ) → Verdict → Composed
composed_by f net out v =
    record {
      verdict = v;
      written = cond (is_granted v) (length (image f net)) 0;
      output = cond (is_granted v) (image f net ++ drop (length (image f net)) out) out;
    }

module _ (f : Format) (caps bs out : List ℕ) where
  pub composed : Each IsByte caps → (compose f caps bs out).verdict ≡ Granted → Composes f (given_net f caps bs) out (compose f caps bs out)
  unfolding compose
  composed all g = go (granted_passes (compose_checks f caps bs (length out)) g)
    where
      go : Each Passes (compose_checks f caps bs (length out)) → Composes f (given_net f caps bs) out (compose f caps bs out)
      go (cons p3 (cons p5 (cons p6 (cons p7 (cons p8 nil))))) =
          let net = given_net f caps bs in
          let r = length bs / relation_size f in
          record {
            valid = record {
              sizes = ap (bad_sizes f (length caps)) (length_read f r bs) ∙ or_false_left (bad_sizes f (length caps) r) (not (eqb (length bs % relation_size f) 0)) p3;
              bytes = all;
              caps = p5;
              fits = p6;
              once = p7;
            };
            fits = ltb-false (length out) (length (image f net)) p8;
            written_is = ap (λ (v : Verdict). (composed_by f net out v).written) g;
            output_is = ap (λ (v : Verdict). (composed_by f net out v).output) g;
          }

module _ (f : Format) (use_of : Usable f) (net : Net) (v : Valid f net) (out : List ℕ) (room : length (image f net) ≤ length out) where
  -- the relation bytes that are given to composing
  abbrev given : List ℕ
  given = concat_map (relation_bytes f) net.rels

  given_count : length given / relation_size f ≡ relation_count net
  given_count = ap (λ (k : ℕ). k / relation_size f) (length_relations f net.rels) ∙ mul-div_right (relation_count net) (omega arith)

  given_whole : length given % relation_size f ≡ 0
  given_whole = ap (λ (k : ℕ). k % relation_size f) (length_relations f net.rels) ∙ mul-mod_right (relation_size f) (relation_count net)

  given_is : given_net f net.caps given ≡ net
  given_is =
      let q : read_relations f (length given / relation_size f) given ≡ net.rels =
      ap₂ (λ (k : ℕ) (l : List ℕ). read_relations f k l) given_count (sym (append-nil given)) ∙ relations_read f (encodable f use_of net v) [] in
      λ i. record { caps = net.caps; rels = q i }

  passes : Each Passes (compose_checks f net.caps given (length out))
  passes =
      cons (or_none (ap (bad_sizes f (size net)) given_count ∙ v.sizes) (agree (length given % relation_size f) 0 given_whole))
      (subst (λ (x : Net). Each Passes (net_checks x ++ (refuse ShortOutput (ltb (length out) (length (image f x))) ∷ []))) (sym given_is)
      (cons v.caps (cons v.fits (cons v.once (cons (le-ltb (length out) (length (image f net)) room) nil)))))

  -- composing a valid list into an output with room: the image, then the bytes that were there
  pub composes : compose f net.caps given out ≡ record { verdict = Granted; written = length (image f net); output = image f net ++ drop (length (image f net)) out }
  unfolding compose
  composes = ap (composed_by f (given_net f net.caps given) out) (passes_granted passes) ∙ ap (λ (x : Net). composed_by f x out Granted) given_is
