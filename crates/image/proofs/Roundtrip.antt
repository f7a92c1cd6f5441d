-- For citation: what composing grants loads and gives the list back, and what loading accepts is a composed image, byte for byte.
-- Assumes nothing.
use Prim.Native.Nat.{ℕ, ◌≤◌}
use mathlib.Core.Path.{◌≡◌, ap, ap₂, ◌∙◌}
use mathlib.Core.List.{List, ◌++◌}
use lib.ListN.{length, take, drop}
use lib.Seq.{take_at}
use mathlib.Core.Path.{refl}
use Rattle.model.specs.Sets.{Each, IsByte, concat_map}
use Rattle.model.specs.Image.{edition_1, relation_bytes, records, image, given_net, compose, load}
use Rattle.model.specs.Claims.{Accepted}
use Rattle.model.specs.declared.Verdict.TheVariants.{Granted}
use Rattle.model.proofs.Composing.{composed, composes}
use Rattle.model.proofs.Accepts.{accepts}
use Rattle.model.proofs.Editions.{usable_1, loads_1}

-- the bytes that granted composing writes load, and give back the capacities and relations that they were composed from
pub composed_loads : (caps bs out : List ℕ) → Each IsByte caps → (compose edition_1 caps bs out).verdict ≡ Granted
    → load edition_1 (take (compose edition_1 caps bs out).written (compose edition_1 caps bs out).output)
    ≡ record { verdict = Granted; net = given_net edition_1 caps bs; part = records edition_1 (given_net edition_1 caps bs) }
composed_loads caps bs out all g =
    let net = given_net edition_1 caps bs in
    let c = composed edition_1 caps bs out all g in
    ap (load edition_1)
    (ap₂ (λ (k : ℕ) (l : List ℕ). take k l) c.written_is c.output_is
    ∙ take_at (image edition_1 net) (drop (length (image edition_1 net)) out) (length (image edition_1 net)) refl)
    ∙ loads_1 net c.valid

-- an accepted image is the image of the list that loading gives, and no check refuses that list
pub accepted_composed : (img : List ℕ) → Each IsByte img → (load edition_1 img).verdict ≡ Granted → Accepted edition_1 img (load edition_1 img)
accepted_composed img all g = accepts edition_1 img all g

-- composing that list again writes the accepted image
pub composed_again : (img out : List ℕ) → Each IsByte img → (load edition_1 img).verdict ≡ Granted → length img ≤ length out
    → compose edition_1 (load edition_1 img).net.caps (concat_map (relation_bytes edition_1) (load edition_1 img).net.rels) out
    ≡ record { verdict = Granted; written = length img; output = img ++ drop (length img) out }
composed_again img out all g room =
    let a = accepts edition_1 img all g in
    composes edition_1 usable_1 (load edition_1 img).net a.valid out (rw a.is_image room)
    ∙ ap (λ (l : List ℕ). record { verdict = Granted; written = length l; output = l ++ drop (length l) out }) a.is_image
