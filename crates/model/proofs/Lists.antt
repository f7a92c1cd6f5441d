-- What a list of calls does, call by call: each request moves as a request does, and the open list grows and shrinks as the answers say.
-- Assumes nothing.
use Prim.Native.Nat.{ℕ, ◌+◌, ◌≤◌, min}
use native.Mathlib.Omega.{arith}
use mathlib.Core.Path.{◌≡◌, refl, sym, subst, ap, ◌∙◌}
use mathlib.Core.Bool.{Bool, true, false, cond}
use mathlib.Core.List.{List, [], ◌∷◌}
use lib.Dec.{eqb-suc-zero}
use lib.ListN.{length, length-take}
use Rattle.model.specs.Sets.{Each, nil, cons}
use Rattle.model.specs.Refusals.{is_granted}
use Rattle.model.specs.Relations.{Net}
use Rattle.model.specs.Machine.{Entry, Board, call_of, without_firings, State, Event, activation, deactivation, effect, commit, make_request, undo_from, settle, reply, respond, after, event, log, requested, open_limit}
use Rattle.model.specs.declared.Request.{Request}
use Rattle.model.specs.Claims.{Made, Opens, none_made, then_open, open_after, ends_open}
use Rattle.model.specs.declared.Verdict.{Verdict}
use Rattle.model.specs.declared.Verdict.TheVariants.{Granted, Refused}
use Rattle.model.specs.declared.Call.{Call}
use Rattle.model.specs.declared.Call.TheVariants.{Activate, Deactivate, Undo, Settle}
use Rattle.model.proofs.Effects.{explained, forced_bound}
use Rattle.model.proofs.Replay.{reply_net}
use Rattle.model.specs.declared.Refusal.TheVariants.{NothingOpen}

-- a request's counts on a board are those that it comes to
pub request_counts : (b : Board) (r : Request) → (make_request b r).board.counts ≡ (effect b.net b.counts r).counts
unfolding make_request commit
request_counts b r = go (effect b.net b.counts r).answer.verdict refl
  where
    go : (v : Verdict) → (effect b.net b.counts r).answer.verdict ≡ v
        → (cond (is_granted v) (commit b r (effect b.net b.counts r).counts) b).counts ≡ (effect b.net b.counts r).counts
    go Granted e = refl
    go (Refused k) e = sym ((explained b.net b.counts r).kept k e)

event_made : (s : State) (c : Call) → Each (Made s.board.net (event s c)) (requested c)
unfolding respond reply make_request
event_made s (Activate c) = cons (record { answer = refl; counts = request_counts s.board (activation c) }) nil
event_made s (Deactivate c) = cons (record { answer = refl; counts = request_counts s.board (deactivation c) }) nil
event_made s Undo = nil
event_made s Settle = nil

pub list_made : (net : Net) (s : State) → s.board.net ≡ net → (cs : List Call) → Each (λ (e : Event). Each (Made net e) (requested e.call)) (log s cs)
unfolding log respond
list_made net s p [] = nil
list_made net s p (c ∷ cs) =
    cons (subst (λ (n : Net). Each (Made n (event s c)) (requested c)) p (event_made s c))
    (list_made net (respond s c).state (reply_net s.board c ∙ p) cs)

-- what an answer tells of forced ones is within its firings
undo_forced : (b : Board) (es : List Entry) → (undo_from b es).answer.forced ≤ (undo_from b es).answer.firings
unfolding undo_from
undo_forced b [] = omega arith
undo_forced b (e ∷ es) = omega arith

reply_forced : (b : Board) (c : Call) → (reply b c).answer.forced ≤ (reply b c).answer.firings
unfolding reply make_request settle
reply_forced b (Activate c) = forced_bound b.net b.counts (activation c)
reply_forced b (Deactivate c) = forced_bound b.net b.counts (deactivation c)
reply_forced b Undo = undo_forced b b.opened
reply_forced b Settle = omega arith

pub list_forced : (s : State) (cs : List Call) → Each (λ (e : Event). e.answer.forced ≤ e.answer.firings) (log s cs)
unfolding log respond
list_forced s [] = nil
list_forced s (c ∷ cs) = cons (reply_forced s.board c) (list_forced (respond s c).state cs)

-- how many are open after a call
request_open : (b : Board) (r : Request) (g : Bool) → length (cond g (commit b r (effect b.net b.counts r).counts) b).opened ≡ cond g (min (length b.opened + 1) 32) (length b.opened)
unfolding commit
request_open b r true =
    let p = length-take open_limit (record { request = r; before = b.counts } ∷ b.opened) in
    omega arith
request_open b r false = refl

undo_open : (b : Board) (es : List Entry) → b.opened ≡ es
    → length (undo_from b es).board.opened ≡ open_after (length es) Undo (is_granted (undo_from b es).answer.verdict)
unfolding undo_from
undo_open b [] p = ap length p
undo_open b (e ∷ es) p = omega arith

open_granted : (k : ℕ) (r : Request) (g : Bool) → cond g (min (k + 1) 32) k ≡ open_after k (call_of r) g
open_granted k r g = go r.on r.context g
  where
    go : (on : Bool) (c : ℕ) (g : Bool) → cond g (min (k + 1) 32) k ≡ open_after k (call_of (record { on = on; context = c })) g
    go on c false = refl
    go true c true = refl
    go false c true = refl

reply_open : (b : Board) (c : Call) → length (reply b c).board.opened ≡ open_after (length b.opened) c (is_granted (reply b c).answer.verdict)
unfolding reply make_request settle
reply_open b (Activate c) =
    let g = is_granted (effect b.net b.counts (activation c)).answer.verdict in
    request_open b (activation c) g ∙ open_granted (length b.opened) (activation c) g
reply_open b (Deactivate c) =
    let g = is_granted (effect b.net b.counts (deactivation c)).answer.verdict in
    request_open b (deactivation c) g ∙ open_granted (length b.opened) (deactivation c) g
reply_open b Undo = undo_open b b.opened refl
reply_open b Settle = refl

undo_ends : (b : Board) (es : List Entry) → ends_open (length es) Undo (undo_from b es).answer
unfolding undo_from
undo_ends b [] = refl
undo_ends b (e ∷ es) = ap (λ (x : Bool). without_firings (cond x (Refused NothingOpen) Granted)) (sym (eqb-suc-zero (length es)))

reply_ends : (b : Board) (c : Call) → ends_open (length b.opened) c (reply b c).answer
unfolding reply settle
reply_ends b (Activate c) = tt
reply_ends b (Deactivate c) = tt
reply_ends b Undo = undo_ends b b.opened
reply_ends b Settle = refl

pub list_opens : (s : State) (cs : List Call) → Opens (length s.board.opened) (log s cs) (length (after s cs).board.opened)
unfolding log after respond
list_opens s [] = none_made
list_opens s (c ∷ cs) =
    then_open (reply_ends s.board c)
    (subst (λ (k : ℕ). Opens k (log (respond s c).state cs) (length (after (respond s c).state cs).board.opened)) (reply_open s.board c)
    (list_opens (respond s c).state cs))
