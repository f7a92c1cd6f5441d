-- docs/MACHINE.md, "The machine" and "Lists of calls": requests, undo, settling, totals and readings; then lists of calls, the history of a
-- list and its replay.
-- Assumes nothing.
use Rattle.std.specs.Prelude.{ℕ, min, ◌+◌, Bool, true, false, ◌&&◌, not, cond, List, [], ◌∷◌, ◌++◌, map, eqb, leb, length, take, drop}
use Rattle.model.specs.Sets.{singleton, bit, concat_map, drop_last}
use Rattle.model.specs.Refusals.{Check, refuse, first_refusal, is_granted}
use Rattle.model.specs.Relations.{Net, size}
use Rattle.model.specs.Firing.{Marking, Outcome, forced_count, fire_until_quiet, step_limit, clear}
use Rattle.model.specs.declared.Call.{Call}
use Rattle.model.specs.declared.Call.TheVariants.{Activate, Deactivate, Undo, Settle}
use Rattle.model.specs.declared.Verdict.{Verdict}
use Rattle.model.specs.declared.Verdict.TheVariants.{Granted, Refused}
use Rattle.model.specs.declared.Answer.{Answer}
use Rattle.model.specs.declared.Request.{Request}
use Rattle.model.specs.declared.Tally.{Tally}
use Rattle.model.specs.declared.Refusal.TheVariants.{NoSuchContext, StepLimitMet, TokensLeft, NothingOpen, AlreadyOff, NotRaised}

-- the activation and the deactivation of c
abbrev pub activation : ℕ → Request
activation c = record { on = true; context = c }

abbrev pub deactivation : ℕ → Request
deactivation c = record { on = false; context = c }

-- the call that asks for it
abbrev pub call_of : Request → Call
call_of r = cond r.on (Activate r.context) (Deactivate r.context)

-- the tokens of the context places
abbrev pub Counts : Type 0
Counts = ℕ → ℕ

-- where every net starts
abbrev pub zeros : Counts
zeros c = 0

-- The marking from which a request's step starts: one token on the request's own temporary place, and no other on any.
unfoldable pub initial_marking : Counts → Request → Marking
initial_marking m r =
    record {
      count = m;
      pr = λ c. bit (r.on && singleton r.context c);
      pr_not = λ c. bit (not r.on && singleton r.context c);
    }

-- the step of a request at these counts
abbrev pub step_of : Net → Counts → Request → Outcome
step_of net m r = fire_until_quiet net step_limit (initial_marking m r)

-- a deactivation of a context that holds no token
abbrev pub asks_nothing : Counts → Request → Bool
asks_nothing m r = not r.on && eqb (m r.context) 0

-- The checks of a request before anything fires. The second: what is off is not switched off once more. It is
-- about the named context alone; what a step asks off goes to deac and drops as before.
abbrev pub checks_before : Net → Counts → Request → List Check
checks_before net m r = refuse NoSuchContext (leb (size net) r.context) ∷ refuse AlreadyOff (asks_nothing m r) ∷ []

-- an activation whose context holds no more tokens after its step than before it
abbrev pub gains_nothing : Counts → Request → Counts → Bool
gains_nothing before r after = r.on && leb (after r.context) (before r.context)

-- And those when its step has ended. The third: a suggestion can swallow what the request, or a relation, asked
-- on. A deactivation never meets it.
abbrev pub checks_after : Net → Counts → Request → Outcome → List Check
checks_after net m r o =
    refuse StepLimitMet (not o.quiet)
    ∷ refuse TokensLeft (not (clear net o.marking))
    ∷ refuse NotRaised (gains_nothing m r o.marking.count)
    ∷ []

-- what a request does to counts: the answer, and the counts after it
pub record Effect : Type 0 where
  pub answer : Answer
  pub counts : Counts

-- an answer where nothing fired: that of undo, of settling, and of a request refused before its step
abbrev pub without_firings : Verdict → Answer
without_firings v = record { verdict = v; firings = 0; forced = 0 }

-- The answer to a request whose step ended so: it tells the firings, and how many of them were forced.
abbrev pub with_firings : Outcome → Verdict → Answer
with_firings o v = record { verdict = v; firings = length o.fired; forced = forced_count o.fired }

-- What a request comes to when its step ended so, with this verdict: a granted one leaves the counts of the step's end, any other rolls
-- back to those before; the firings are reported in both.
unfoldable pub concluded : Counts → Outcome → Verdict → Effect
concluded m o v =
    record {
      answer = with_firings o v;
      counts = cond (is_granted v) o.marking.count m;
    }

-- a request at these counts: the checks before the step, the step, the checks after it
unfoldable pub effect : Net → Counts → Request → Effect
effect net m r =
    elim (first_refusal (checks_before net m r)) [
      | Granted ↦ concluded m (step_of net m r) (first_refusal (checks_after net m r (step_of net m r)))
      | Refused k ↦ record { answer = without_firings (Refused k); counts = m }
    ]

-- a granted request that can still be undone, and the counts from before it
pub record Entry : Type 0 where
  pub request : Request
  pub before : Counts

-- The machine's state without its totals. Both lists have the newest request first: the end of a list is its head here. The settled
-- list is only written.
pub record Board : Type 0 where
  pub net : Net
  pub counts : Counts
  pub settled : List Request
  pub opened : List Entry

-- the whole state
pub record State : Type 0 where
  pub board : Board
  pub tally : Tally

-- how many requests can be open
abbrev pub open_limit : ℕ
open_limit = 32

-- the requests of an open list
abbrev pub requests : List Entry → List Request
requests = map (λ (e : Entry). e.request)

-- a call's answer, and the board after it
pub record Reply : Type 0 where
  pub answer : Answer
  pub board : Board

-- A granted request becomes the newest open one, kept with the counts from before it. Where the list was full, its oldest becomes settled.
unfoldable pub commit : Board → Request → Counts → Board
commit b r after =
    let entries : List Entry = record { request = r; before = b.counts } ∷ b.opened in
    record {
      net = b.net;
      counts = after;
      settled = requests (drop open_limit entries) ++ b.settled;
      opened = take open_limit entries;
    }

-- a request on a board; a refused one changes nothing there
unfoldable pub make_request : Board → Request → Reply
make_request b r =
    let e = effect b.net b.counts r in
    record {
      answer = e.answer;
      board = cond (is_granted e.answer.verdict) (commit b r e.counts) b;
    }

-- Undo on a board with this open list: the newest request goes and its counts come back; refused where there is none.
unfoldable pub undo_from : Board → List Entry → Reply
undo_from b [] = record { answer = without_firings (Refused NothingOpen); board = b }
undo_from b (last ∷ rest) =
    record {
      answer = without_firings Granted;
      board = record { net = b.net; counts = last.before; settled = b.settled; opened = rest };
    }

-- Settling: what was open can no longer be undone. Never refused.
unfoldable pub settle : Board → Reply
settle b =
    record {
      answer = without_firings Granted;
      board = record { net = b.net; counts = b.counts; settled = requests b.opened ++ b.settled; opened = [] };
    }

-- a call on a board
unfoldable pub reply : Board → Call → Reply
reply b (Activate c) = make_request b (activation c)
reply b (Deactivate c) = make_request b (deactivation c)
reply b Undo = undo_from b b.opened
reply b Settle = settle b

-- Which calls raise which total, by their verdict: granted requests the first,
abbrev pub adds_granted : Call → Verdict → Bool
adds_granted (Activate c) v = is_granted v
adds_granted (Deactivate c) v = is_granted v
adds_granted Undo v = false
adds_granted Settle v = false

-- refused requests and refused undos the second,
abbrev pub adds_refused : Call → Verdict → Bool
adds_refused (Activate c) v = not (is_granted v)
adds_refused (Deactivate c) v = not (is_granted v)
adds_refused Undo v = not (is_granted v)
adds_refused Settle v = false

-- and undos that were done the third. A settling raises none, and an undo takes nothing back from granted.
abbrev pub adds_undone : Call → Verdict → Bool
adds_undone (Activate c) v = false
adds_undone (Deactivate c) v = false
adds_undone Undo v = is_granted v
adds_undone Settle v = false

-- where a total stops counting
abbrev pub total_limit : ℕ
total_limit = 4294967295

-- a total with k more, stopped there
abbrev pub saturating_add : ℕ → ℕ → ℕ
saturating_add total k = min (total + k) total_limit

-- the totals after a call with this verdict
unfoldable pub tally_after : Tally → Call → Verdict → Tally
tally_after t c v =
    record {
      granted = saturating_add t.granted (bit (adds_granted c v));
      refused = saturating_add t.refused (bit (adds_refused c v));
      undone = saturating_add t.undone (bit (adds_undone c v));
    }

-- a call's answer, and the machine after it
pub record Result : Type 0 where
  pub answer : Answer
  pub state : State

-- a call on the machine
unfoldable pub respond : State → Call → Result
respond s c =
    let q = reply s.board c in
    record {
      answer = q.answer;
      state = record { board = q.board; tally = tally_after s.tally c q.answer.verdict };
    }

-- What reading a count gives. (The totals are read off the tally, without a check.)
pub record Reading : Type 0 where
  pub verdict : Verdict
  pub value : ℕ

-- its one check
abbrev pub reading_checks : ℕ → ℕ → List Check
reading_checks n c = refuse NoSuchContext (leb n c) ∷ []

-- The reading of context c in a net of n contexts where c's count is this; a refused one shows 0. It sees no other count and no list.
unfoldable pub reading : ℕ → ℕ → ℕ → Reading
reading n c count =
    let v = first_refusal (reading_checks n c) in
    record { verdict = v; value = cond (is_granted v) count 0 }

-- the reading of context c on the machine
abbrev pub read_count : State → ℕ → Reading
read_count s c = reading (size s.board.net) c (s.board.counts c)

-- a board with these counts and nothing open or settled
unfoldable pub board_at : Net → Counts → Board
board_at net m = record { net = net; counts = m; settled = []; opened = [] }

-- nothing counted yet
abbrev pub no_totals : Tally
no_totals = record { granted = 0; refused = 0; undone = 0 }

-- the machine that starts with a net at these counts
abbrev pub begin : Net → Counts → State
begin net m = record { board = board_at net m; tally = no_totals }

-- the machine of a freshly loaded net
abbrev pub fresh : Net → State
fresh net = begin net zeros

-- the state after a list of calls, each made on what the one before left
unfoldable pub after : State → List Call → State
after s [] = s
after s (c ∷ cs) = after (respond s c).state cs

-- what is known of a call when it has been made: its answer, and the counts before and after it
pub record Event : Type 0 where
  pub call : Call
  pub answer : Answer
  pub before : Counts
  pub counts : Counts

-- the event of a call on the machine
abbrev pub event : State → Call → Event
event s c =
    let q = respond s c in
    record { call = c; answer = q.answer; before = s.board.counts; counts = q.state.board.counts }

-- the events of a list of calls, in order
unfoldable pub log : State → List Call → List Event
log s [] = []
log s (c ∷ cs) = event s c ∷ log (respond s c).state cs

-- One more event in a history, by its call and whether it was granted: a granted request is appended, a done undo removes the last
-- request that still stands, everything else changes nothing.
unfoldable pub extend_by : List Event → Event → Call → Bool → List Event
extend_by h e c false = h
extend_by h e (Activate c) true = h ++ (e ∷ [])
extend_by h e (Deactivate c) true = h ++ (e ∷ [])
extend_by h e Undo true = drop_last h
extend_by h e Settle true = h

-- the events that still stand after these, where h stood before
unfoldable pub standing : List Event → List Event → List Event
standing h [] = h
standing h (e ∷ es) = standing (extend_by h e e.call (is_granted e.answer.verdict)) es

-- the request that a call makes, if it makes one
abbrev pub requested : Call → List Request
requested (Activate c) = activation c ∷ []
requested (Deactivate c) = deactivation c ∷ []
requested Undo = []
requested Settle = []

-- the history of a list of calls: the requests that stand after its events
unfoldable pub history : List Event → List Request
history es = concat_map (λ (e : Event). requested e.call) (standing [] es)

-- the replay's calls: the history, request by request
abbrev pub replayed_calls : List Event → List Call
replayed_calls es = map call_of (history es)
