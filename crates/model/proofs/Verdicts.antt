-- Every answer is granted or one of the call's own refusals, and an input that breaks several rules meets the refusal that is tested first.
-- Assumes nothing.
use Prim.Native.Nat.{ℕ, ◌<◌}
use native.Mathlib.Omega.{arith}
use mathlib.Core.Path.{◌≡◌, refl, sym, subst, ap}
use mathlib.Core.Logic.{◌↔◌, inl, inr, ⊎_elim}
use mathlib.Core.Bool.{Bool, cond, not}
use lib.Dec.{leb}
use mathlib.Core.List.Memᴰ
use mathlib.Core.List.{List, [], ◌∷◌, ◌++◌, Memᴰ}
use borrow.Author.Tests.{lt-leb, le-leb}
use Rattle.model.specs.Sets.{Each, nil, cons}
use Rattle.model.specs.Refusals.{verdict_number, number_of, is_granted, refuse, first_refusal}
use Rattle.model.specs.Relations.{Net, size, empty_net}
use Rattle.model.specs.Firing.{Outcome, clear}
use Rattle.model.specs.Machine.{Counts, step_of, checks_before, checks_after, Board, Entry, State, Reading, activation, deactivation, effect, make_request, undo_from, settle, reply, respond, reading, reading_checks}
use Rattle.model.specs.declared.Request.{Request}
use Rattle.model.specs.Image.{Format, image, given_net, net_of, records_of, trailer_of, load, load_checks, compose, compose_checks}
use Rattle.model.specs.Claims.{Reads, LoadRefused, ComposeRefused, OneOf, FirstBroken, InOrder, numbers, call_refusals}
use lib.ListN.{length, drop}
use Rattle.model.specs.declared.Call.{Call}
use Rattle.model.specs.declared.Call.TheVariants.{Activate, Deactivate, Undo, Settle}
use Rattle.model.specs.declared.Verdict.{Verdict}
use Rattle.model.specs.declared.Verdict.TheVariants.{Granted, Refused}
use Rattle.model.proofs.Checks.{one_of, refused_first, in_order}
use Rattle.model.proofs.Effects.{in_turn}
use Rattle.model.specs.declared.Refusal.TheVariants.{NoSuchContext, StepLimitMet, TokensLeft, NothingOpen}
use Rattle.model.specs.declared.Refusal.{Refusal}

-- the order of loading
pub load_order : (f : Format) (img : List ℕ) → numbers (load_checks f img) ≡ 1 ∷ 2 ∷ 3 ∷ 4 ∷ 5 ∷ 6 ∷ 7 ∷ 9 ∷ []
load_order f img = refl

-- the order of composing
pub compose_order : (f : Format) (caps bs : List ℕ) (room : ℕ) → numbers (compose_checks f caps bs room) ≡ 3 ∷ 5 ∷ 6 ∷ 7 ∷ 8 ∷ []
compose_order f caps bs room = refl

-- the order of a request's checks, before its step and after it
pub request_order : (net : Net) (m : Counts) (r : Request) (o : Outcome)
    → (numbers (checks_before net m r) ≡ 10 ∷ 14 ∷ []) × (numbers (checks_after net m r o) ≡ 11 ∷ 12 ∷ 15 ∷ [])
request_order net m r o = (refl, refl)

-- the one check of a reading
pub reading_order : (n c : ℕ) → numbers (reading_checks n c) ≡ 10 ∷ []
reading_order n c = refl

pub load_answers : (f : Format) (img : List ℕ) → OneOf (1 ∷ 2 ∷ 3 ∷ 4 ∷ 5 ∷ 6 ∷ 7 ∷ 9 ∷ []) (load f img).verdict
unfolding load
load_answers f img = one_of (load_checks f img)

pub compose_answers : (f : Format) (caps bs out : List ℕ) → OneOf (3 ∷ 5 ∷ 6 ∷ 7 ∷ 8 ∷ []) (compose f caps bs out).verdict
unfolding compose
compose_answers f caps bs out = one_of (compose_checks f caps bs (length out))

pub reading_answers : (n c count : ℕ) → OneOf (10 ∷ []) (reading n c count).verdict
unfolding reading
reading_answers n c count = one_of (reading_checks n c)

-- of any two rules that an input breaks, the one with the lower number is met
pub load_in_order : (f : Format) (img : List ℕ) → InOrder (load_checks f img)
load_in_order f img = in_order (load_checks f img) refl

pub compose_in_order : (f : Format) (caps bs : List ℕ) (room : ℕ) → InOrder (compose_checks f caps bs room)
compose_in_order f caps bs room = in_order (compose_checks f caps bs room) refl

-- a refused load or composing names the first check that is broken
pub load_first : (f : Format) (img : List ℕ) (k : Refusal) → (load f img).verdict ≡ Refused k → FirstBroken (load_checks f img) k
unfolding load
load_first f img k e = refused_first (load_checks f img) k e

pub compose_first : (f : Format) (caps bs out : List ℕ) (k : Refusal) → (compose f caps bs out).verdict ≡ Refused k → FirstBroken (compose_checks f caps bs (length out)) k
unfolding compose
compose_first f caps bs out k e = refused_first (compose_checks f caps bs (length out)) k e

-- the refusals of a deactivation, which never meets 15, and of an activation, which never meets 14
deactivation_answers : (net : Net) (m : Counts) (c : ℕ) → OneOf (10 ∷ 14 ∷ 11 ∷ 12 ∷ []) (effect net m (deactivation c)).answer.verdict
deactivation_answers net m c =
    let r = deactivation c in
    let o = step_of net m r in
    subst (OneOf (10 ∷ 14 ∷ 11 ∷ 12 ∷ [])) (sym (in_turn net m r))
    (one_of (checks_before net m r ++ (refuse StepLimitMet (not o.quiet) ∷ refuse TokensLeft (not (clear net o.marking)) ∷ [])))

activation_answers : (net : Net) (m : Counts) (c : ℕ) → OneOf (10 ∷ 11 ∷ 12 ∷ 15 ∷ []) (effect net m (activation c)).answer.verdict
activation_answers net m c =
    let r = activation c in
    subst (OneOf (10 ∷ 11 ∷ 12 ∷ 15 ∷ [])) (sym (in_turn net m r))
    (one_of (refuse NoSuchContext (leb (size net) c) ∷ checks_after net m r (step_of net m r)))

undo_answers : (b : Board) (es : List Entry) → OneOf (13 ∷ []) (undo_from b es).answer.verdict
unfolding undo_from
undo_answers b [] = inr (NothingOpen, Memᴰ.head refl, refl)
undo_answers b (e ∷ es) = inl refl

-- undo meets 13 exactly where nothing is open
pub undo_refused : (s : State) → ((respond s Undo).answer.verdict ≡ Refused NothingOpen) ↔ (s.board.opened ≡ [])
unfolding respond reply undo_from
undo_refused s = go s.board.opened
  where
    go : (es : List Entry) → ((undo_from s.board es).answer.verdict ≡ Refused NothingOpen) ↔ (es ≡ [])
    go [] = (λ _. refl, λ _. refl)
    go (e ∷ es) = (λ p. absurd (cc), λ p. absurd (cc))

-- reading a count
pub reads : (s : State) (c : ℕ) → Reads s c
unfolding reading
reads s c =
    let n = size s.board.net in
    let by : Bool → Reading = λ b.
    let v = first_refusal (refuse NoSuchContext b ∷ []) in
    record { verdict = v; value = cond (is_granted v) (s.board.counts c) 0 } in
    record { inside = λ h. ap by (lt-leb n c h); outside = λ h. ap by (le-leb n c h) }

-- a refused load gives nothing, and refused composing changes nothing
pub load_refused : (f : Format) (img : List ℕ) (k : Refusal) → (load f img).verdict ≡ Refused k → LoadRefused (load f img)
unfolding load
load_refused f img k e =
    record {
      no_net = ap (λ (v : Verdict). cond (is_granted v) (net_of f img (trailer_of f img)) empty_net) e;
      no_part = ap (λ (v : Verdict). cond (is_granted v) (records_of f img (trailer_of f img)) []) e;
    }

pub compose_refused : (f : Format) (caps bs out : List ℕ) (k : Refusal) → (compose f caps bs out).verdict ≡ Refused k → ComposeRefused out (compose f caps bs out)
unfolding compose
compose_refused f caps bs out k e =
    let img = image f (given_net f caps bs) in
    record {
      written_none = ap (λ (v : Verdict). cond (is_granted v) (length img) 0) e;
      output_kept = ap (λ (v : Verdict). cond (is_granted v) (img ++ drop (length img) out) out) e;
    }

each_member : {P : ℕ → Type 0} {ks : List ℕ} → Each P ks → (k : ℕ) → Memᴰ k ks → P k
each_member nil k m = absurd (Memᴰ.not-nil m)
each_member {P} (cons p ps) k m = ⊎_elim (λ e. subst P (sym e) p) (λ n. each_member ps k n) (Memᴰ.cases_cons m)

-- 0 stands for granted alone: no refusal of ours has it
pub number_granted : (ks : List ℕ) → Each (λ k. 0 < k) ks → (v : Verdict) → OneOf ks v → (verdict_number v ≡ 0) ↔ (v ≡ Granted)
number_granted ks above v o =
    ⊎_elim (λ e. (λ _. e, λ _. ap verdict_number e))
    (λ r.
    let pos = each_member above (number_of r.0) r.1 in
    let n = ap verdict_number r.2 in
    (λ z. absurd (omega arith), λ g. let y : verdict_number v ≡ 0 = ap verdict_number g in absurd (omega arith)))
    o

-- every call on the machine
pub call_answers : (s : State) (c : Call) → OneOf (call_refusals c) (respond s c).answer.verdict
unfolding respond reply make_request settle
call_answers s (Activate c) = activation_answers s.board.net s.board.counts c
call_answers s (Deactivate c) = deactivation_answers s.board.net s.board.counts c
call_answers s Undo = undo_answers s.board s.board.opened
call_answers s Settle = inl refl
