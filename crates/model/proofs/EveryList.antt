-- What holds of every list of calls on the machine: for every net whose relations fit it, from any counts at which the rules hold.
-- Assumes nothing.
use mathlib.Core.Path.{◌≡◌, refl, sym, subst, ◌∙◌}
use mathlib.Core.Bool.{true}
use mathlib.Core.List.{List, [], ◌∷◌}
use Rattle.model.specs.Sets.{Each, nil, cons}
use Rattle.model.specs.Relations.{Net}
use Rattle.model.specs.Refusals.{is_granted}
use Rattle.model.specs.Machine.{Counts, Board, State, Event, activation, deactivation, zeros, effect, make_request, reply, respond, board_at, begin, event, log, standing, requested, replayed_calls}
use Rattle.model.specs.declared.Request.{Request}
use Rattle.model.specs.Claims.{Fits, Rules, Raises, Carried, Admitted, Completes, ListHolds, events}
use Rattle.model.specs.declared.Call.{Call}
use Rattle.model.specs.declared.Call.TheVariants.{Activate, Deactivate, Undo, Settle}
use Rattle.model.proofs.Effects.{granted_step}
use Rattle.model.proofs.Replay.{after_net, reply_net, replayed}
use Rattle.model.proofs.Rules.{zeros_rules, reached_rules}
use Rattle.model.proofs.Bounds.{reached_beyond}
use Rattle.model.proofs.Totals.{totals}
use Rattle.model.proofs.Lists.{request_counts, list_made, list_forced, list_opens}

request_carried : (b : Board) (r : Request) → is_granted (effect b.net b.counts r).answer.verdict ≡ true
    → Carried b.net b.counts (make_request b r).board.counts r
request_carried b r g =
    let x = granted_step b.net b.counts r g in
    record { admitted = x.admitted; completed = x.step; raises = subst (Raises b.counts r) (sym (request_counts b r)) x.raises }

event_completes : (s : State) (c : Call) → Completes s.board.net (event s c)
unfolding respond reply make_request
event_completes s (Activate c) = cons (request_carried s.board (activation c)) nil
event_completes s (Deactivate c) = cons (request_carried s.board (deactivation c)) nil
event_completes s Undo = nil
event_completes s Settle = nil

list_completes : (net : Net) (s : State) → s.board.net ≡ net → (cs : List Call) → Each (Completes net) (log s cs)
unfolding log respond
list_completes net s p [] = nil
list_completes net s p (c ∷ cs) =
    cons (subst (λ (n : Net). Completes n (event s c)) p (event_completes s c))
    (list_completes net (respond s c).state (reply_net s.board c ∙ p) cs)

-- of events that were all granted, each request was one that makes a step
each_admitted : (net : Net) (es : List Event) → Each (Completes net) es → Each (λ (e : Event). is_granted e.answer.verdict ≡ true) es
    → Each (λ (e : Event). Each (Admitted net e.before) (requested e.call)) es
each_admitted net [] nil nil = nil
each_admitted net (e ∷ es) (cons d ds) (cons g gs) = cons (of_request (requested e.call) d) (each_admitted net es ds gs)
  where
    of_request : (rs : List Request) → Each (λ (r : Request). is_granted e.answer.verdict ≡ true → Carried net e.before e.counts r) rs
        → Each (Admitted net e.before) rs
    of_request [] nil = nil
    of_request (r ∷ rs) (cons x xs) = cons (x g).admitted (of_request rs xs)

pub every_list : (net : Net) → Fits net → (m₀ : Counts) → Rules net m₀ → (cs : List Call) → ListHolds net m₀ cs
unfolding board_at
every_list net fits m₀ r₀ cs =
    let p = replayed net m₀ cs in
    record {
      net_kept = after_net (begin net m₀) cs;
      replayed = p.counts;
      regranted = p.again;
      all_granted = p.granted;
      admitted =
          each_admitted net (standing [] (events net m₀ cs))
          (subst (Each (Completes net)) p.again (list_completes net (begin net m₀) refl (replayed_calls (events net m₀ cs)))) p.granted;
      listed = p.listed;
      open_bound = p.bound;
      rules = reached_rules net fits r₀ p.reached;
      beyond = reached_beyond net fits p.reached;
      forced_bound = list_forced (begin net m₀) cs;
      made = list_made net (begin net m₀) refl cs;
      opens = list_opens (begin net m₀) cs;
      completed = list_completes net (begin net m₀) refl cs;
      totals = totals net m₀ cs;
    }

-- of a fresh net
pub every_list_fresh : (net : Net) → Fits net → (cs : List Call) → ListHolds net zeros cs
every_list_fresh net fits cs = every_list net fits zeros (zeros_rules net) cs
