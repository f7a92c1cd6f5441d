-- The number that stands for what composing and listing answer.
-- Assumes nothing.
use Rattle.std.proofs.Common.{◌≡◌, ℕ, cond, List, sym, ap, ◌∙◌}
use Rattle.model.specs.Refusals.{is_granted, number_of, verdict_number}
use Rattle.model.specs.Image.{edition_1, compose}
use Rattle.model.specs.declared.Refusal.{Refusal}
use Rattle.model.specs.declared.Verdict.{Verdict}
use Rattle.model.specs.declared.Verdict.TheVariants.{Granted, Refused}
use Rattle.image.specs.Listing
use Rattle.board.specs.Values.{composed, listed}

module _ (caps bs out after : List ℕ) (k : ℕ) (output_is : after ≡ (compose edition_1 caps bs out).output) where
  pub composed_length : (v : Verdict) → v ≡ Granted → v ≡ (compose edition_1 caps bs out).verdict → k ≡ (compose edition_1 caps bs out).written
      → (record { value = k; output = after }) ≡ composed caps bs out
  unfolding composed
  composed_length v granted verdict written =
      let m = compose edition_1 caps bs out in
      let value : k ≡ cond (is_granted m.verdict) m.written (verdict_number m.verdict) =
      written ∙ ap (λ (x : Verdict). cond (is_granted x) m.written (verdict_number x)) (sym granted ∙ verdict) in
      λ i. record { value = value i; output = output_is i }

  pub composed_refusal : (v : Verdict) (r : Refusal) → v ≡ Refused r → v ≡ (compose edition_1 caps bs out).verdict → k ≡ number_of r
      → (record { value = k; output = after }) ≡ composed caps bs out
  unfolding composed
  composed_refusal v r refused verdict number =
      let m = compose edition_1 caps bs out in
      let value : k ≡ cond (is_granted m.verdict) m.written (verdict_number m.verdict) =
      number ∙ ap (λ (x : Verdict). cond (is_granted x) m.written (verdict_number x)) (sym refused ∙ verdict) in
      λ i. record { value = value i; output = output_is i }

module _ (img out after : List ℕ) (k : ℕ) (output_is : after ≡ (Listing.listed img out).output) where
  pub listed_length : (v : Verdict) → v ≡ Granted → v ≡ (Listing.listed img out).verdict → k ≡ (Listing.listed img out).written
      → (record { value = k; output = after }) ≡ listed img out
  unfolding listed
  listed_length v granted verdict written =
      let m = Listing.listed img out in
      let value : k ≡ cond (is_granted m.verdict) m.written (verdict_number m.verdict) =
      written ∙ ap (λ (x : Verdict). cond (is_granted x) m.written (verdict_number x)) (sym granted ∙ verdict) in
      λ i. record { value = value i; output = output_is i }

  pub listed_refusal : (v : Verdict) (r : Refusal) → v ≡ Refused r → v ≡ (Listing.listed img out).verdict → k ≡ number_of r
      → (record { value = k; output = after }) ≡ listed img out
  unfolding listed
  listed_refusal v r refused verdict number =
      let m = Listing.listed img out in
      let value : k ≡ cond (is_granted m.verdict) m.written (verdict_number m.verdict) =
      number ∙ ap (λ (x : Verdict). cond (is_granted x) m.written (verdict_number x)) (sym refused ∙ verdict) in
      λ i. record { value = value i; output = output_is i }
