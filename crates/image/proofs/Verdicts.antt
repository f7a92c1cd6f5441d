-- Checks in two parts, one behind the other; and what composing answers.
-- Assumes nothing.
use Rattle.std.proofs.Common.{◌≡◌, ℕ, ◌<◌, ◌≤◌, Bool, true, false, cond, List, [], ◌∷◌, ◌++◌, ltb, length, drop, refl, ap, ◌∙◌, append_assoc, lt-ltb, le-ltb}
use Rattle.model.specs.Sets.{Each, nil, cons}
use Rattle.model.specs.Refusals.{Check, refuse, first_refusal, is_granted}
use Rattle.model.specs.Image.{edition_1, image, given_net, compose, compose_checks}
use Rattle.model.specs.Claims.{Passes}
use Rattle.model.specs.declared.Refusal.{Refusal}
use Rattle.model.specs.declared.Refusal.TheVariants.{ShortOutput}
use Rattle.model.specs.declared.Verdict.{Verdict}
use Rattle.model.specs.declared.Verdict.TheVariants.{Granted, Refused}
use Rattle.model.proofs.Checks.{first_refused, refused_first, granted_passes}
use Rattle.relations.specs.Lists.{given_checks}

pub refused_before : (xs ys : List Check) (k : Refusal) → first_refusal xs ≡ Refused k → first_refusal (xs ++ ys) ≡ Refused k
refused_before xs ys k e =
    let i = refused_first xs k e in
    ap (λ (zs : List Check). first_refusal (zs ++ ys)) i.split
    ∙ ap first_refusal (append_assoc i.before (i.found ∷ i.behind) ys)
    ∙ first_refused i.passed i.found i.broken (i.behind ++ ys)
    ∙ ap Refused i.refusal

passed_before : {xs : List Check} → Each Passes xs → (ys : List Check) → first_refusal (xs ++ ys) ≡ first_refusal ys
passed_before nil ys = refl
passed_before (cons {x = c} {xs = xs} p ps) ys =
    ap (λ (b : Bool). elim b as (λ _. Verdict) [ true ↦ Refused c.refusal | false ↦ first_refusal (xs ++ ys) ]) p ∙ passed_before ps ys

pub granted_before : (xs ys : List Check) → first_refusal xs ≡ Granted → first_refusal (xs ++ ys) ≡ first_refusal ys
granted_before xs ys e = passed_before (granted_passes xs e) ys

-- composing into an output with these bytes
module _ (caps bs out : List ℕ) where
  abbrev given_image : List ℕ
  given_image = image edition_1 (given_net edition_1 caps bs)

  -- the verdict decides the rest
  pub record Composes (v : Verdict) : Type 0 where
    pub verdict : (compose edition_1 caps bs out).verdict ≡ v
    pub written : (compose edition_1 caps bs out).written ≡ cond (is_granted v) (length given_image) 0
    pub output : (compose edition_1 caps bs out).output ≡ cond (is_granted v) (given_image ++ drop (length given_image) out) out

  by_verdict : (v : Verdict) → first_refusal (compose_checks edition_1 caps bs (length out)) ≡ v → Composes v
  unfolding compose
  by_verdict v e =
      record {
        verdict = e;
        written = ap (λ (x : Verdict). cond (is_granted x) (length given_image) 0) e;
        output = ap (λ (x : Verdict). cond (is_granted x) (given_image ++ drop (length given_image) out) out) e;
      }

  abbrev room_check : List Check
  room_check = refuse ShortOutput (ltb (length out) (length given_image)) ∷ []

  pub list_refused : (k : Refusal) → first_refusal (given_checks caps bs) ≡ Refused k → Composes (Refused k)
  list_refused k e = by_verdict (Refused k) (refused_before (given_checks caps bs) room_check k e)

  module _ (g : first_refusal (given_checks caps bs) ≡ Granted) where
    pub output_refused : length out < length given_image → Composes (Refused ShortOutput)
    output_refused h =
        by_verdict (Refused ShortOutput)
        (granted_before (given_checks caps bs) room_check g
        ∙ ap (λ (b : Bool). first_refusal (refuse ShortOutput b ∷ [])) (lt-ltb (length out) (length given_image) h))

    pub written : length given_image ≤ length out → Composes Granted
    written h =
        by_verdict Granted
        (granted_before (given_checks caps bs) room_check g
        ∙ ap (λ (b : Bool). first_refusal (refuse ShortOutput b ∷ [])) (le-ltb (length out) (length given_image) h))
