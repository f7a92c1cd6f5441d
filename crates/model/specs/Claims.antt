-- What the theorems say: refusals and their order, each request, every list of calls, and the image. docs/CLAIMS.md has each
-- theorem in a sentence. Limits, and refusals in the claims about requests, are written as numbers once more: a definition that changed one
-- no longer meets its claim. That the code gives these definitions' values is said by its contracts; what is claimed of the values is here.
-- Assumes nothing.
use Rattle.std.specs.Prelude.{ℕ, ◌+◌, ◌-◌, ◌*◌, ◌^◌, ◌<◌, ◌≤◌, min, ◌≡◌, ◌⊎◌, ◌↔◌, Bool, true, false, cond, eqb, length, drop, get_or}
use Rattle.std.proofs.Math.Option.{none, some}
use mathlib.Core.List.{List, [], ◌∷◌, ◌++◌, Memᴰ, reverse, map}
use Rattle.model.specs.Sets.{Each, IsByte, any, count_passing}
use Rattle.model.specs.Refusals.{Check, refuse, first_refusal, is_granted, number_of}
use Rattle.model.specs.Relations.{Net, size, relation_count, capacity, empty_net, related, has_zero, misfit, repeats, excludes, implies, requires, suggests}
use Rattle.model.specs.declared.Relation.{Relation}
use Rattle.model.specs.Transitions.{Transition, is_forced}
use Rattle.model.specs.Firing.{Marking, Outcome, next_of, clear}
use Rattle.model.specs.Machine.{Counts, Event, State, zeros, step_of, effect, without_firings, read_count, begin, after, log, standing, requested, history, replayed_calls, requests, adds_granted, adds_refused, adds_undone}
use Rattle.model.specs.declared.Request.{Request}
use Rattle.model.specs.declared.Tally.{Tally}
use Rattle.model.specs.Image.{Format, Loaded, Composed, image, bad_sizes, relations_size, records_size}
use Rattle.model.specs.declared.Call.{Call}
use Rattle.model.specs.declared.Call.TheVariants.{Activate, Deactivate, Undo, Settle}
use Rattle.model.specs.declared.Answer.{Answer}
use Rattle.model.specs.declared.Verdict.{Verdict}
use Rattle.model.specs.declared.Verdict.TheVariants.{Granted, Refused}
use Rattle.model.specs.declared.Refusal.TheVariants.{ShortImage, NoSuchContext, StepLimitMet, TokensLeft, NothingOpen, AlreadyOff, NotRaised}
use Rattle.model.specs.declared.Refusal.{Refusal}

-- ---- nets and formats

-- no relation of the net meets refusal 6
abbrev pub Fits : Net → Type 0
Fits net = any (misfit (size net)) net.rels ≡ false

-- no relation of the net is a suggestion
abbrev pub SuggestsNone : Net → Type 0
SuggestsNone net = any (λ (r : Relation). eqb r.kind suggests) net.rels ≡ false

-- a list of capacities and relations that a format admits: no check of composing but 8 refuses it
pub record Valid (f : Format) (net : Net) : Type 0 where
  pub sizes : bad_sizes f (size net) (relation_count net) ≡ false
  pub bytes : Each IsByte net.caps
  pub caps : has_zero net.caps ≡ false
  pub fits : Fits net
  pub once : repeats net.rels ≡ false

-- A format whose fields hold what its limits allow. Both editions do.
pub record Usable (f : Format) : Type 0 where
  pub numbers_fit : 2 * f.max_contexts + f.max_relations < 256 ^ f.count_bytes
  pub ends_fit : f.max_contexts ≤ 256 ^ f.end_bytes
  pub distances_fit : relations_size f f.max_relations + records_size f (2 * f.max_contexts + f.max_relations) < 256 ^ f.distance_bytes
  pub sets_fit : f.max_contexts ≤ 8 * f.set_width
  pub edition_fits : f.edition < 256

-- ---- answers and their order

-- a check whose rule is kept
abbrev pub Passes : Check → Type 0
Passes c = c.broken ≡ false

-- the numbers that checks refuse with, in order
abbrev pub numbers : List Check → List ℕ
numbers = map (λ (c : Check). number_of c.refusal)

-- a verdict that is granted, or a refusal with one of these numbers
abbrev pub OneOf : List ℕ → Verdict → Type 0
OneOf ks v = (v ≡ Granted) ⊎ ((r : Refusal) × Memᴰ (number_of r) ks × (v ≡ Refused r))

-- a refusal's reason: a check of this number that is broken, and every check before it passes
pub record FirstBroken (cs : List Check) (r : Refusal) : Type 0 where
  pub before : List Check
  pub found : Check
  pub behind : List Check
  pub split : cs ≡ before ++ (found ∷ behind)
  pub passed : Each Passes before
  pub broken : found.broken ≡ true
  pub refusal : found.refusal ≡ r

-- what stands behind the end of a list of checks
abbrev pub no_check : Check
no_check = refuse ShortImage false

-- Of any two checks of a list the earlier goes first: where it is broken, the later one's number is never the answer.
abbrev pub InOrder : List Check → Type 0
InOrder cs =
    (i j : ℕ) → i < j → j < length cs → (get_or cs i no_check).broken ≡ true
    → first_refusal cs ≡ Refused (get_or cs j no_check).refusal → ⊥

-- which refusals a call can meet
abbrev pub call_refusals : Call → List ℕ
call_refusals (Activate c) = 10 ∷ 11 ∷ 12 ∷ 15 ∷ []
call_refusals (Deactivate c) = 10 ∷ 14 ∷ 11 ∷ 12 ∷ []
call_refusals Undo = 13 ∷ []
call_refusals Settle = []

-- a step that made all its firings and could go on
pub record Unfinished (net : Net) (o : Outcome) : Type 0 where
  pub firings : length o.fired ≡ 4096
  pub enabled : (t : Transition) × (next_of net o.marking ≡ some t)

-- a step that ended because nothing was enabled
pub record Quiet (net : Net) (o : Outcome) : Type 0 where
  pub quiet : o.quiet ≡ true
  pub still : next_of net o.marking ≡ none

-- a step that ended in order: nothing enabled, and nothing left on a temporary place
pub record Completed (net : Net) (o : Outcome) : Type 0 where
  pub quiet : Quiet net o
  pub cleared : clear net o.marking ≡ true

-- a deactivation of a context of the net that is not active
pub record Off (net : Net) (m : Counts) (r : Request) : Type 0 where
  pub inside : r.context < size net
  pub deactivates : r.on ≡ false
  pub none_held : m r.context ≡ 0

-- a request that makes a step: its context is the net's, and active where it is to be deactivated
pub record Admitted (net : Net) (m : Counts) (r : Request) : Type 0 where
  pub inside : r.context < size net
  pub active : r.on ≡ false → 0 < m r.context

-- an activation between these counts that gained its context no token
pub record Unraised (before : Counts) (r : Request) (after : Counts) : Type 0 where
  pub activates : r.on ≡ true
  pub no_higher : after r.context ≤ before r.context

-- one that gained it some; of a deactivation this says nothing
abbrev pub Raises : Counts → Request → Counts → Type 0
Raises before r after = r.on ≡ true → before r.context < after r.context

-- exactly when a request gets which verdict
pub record Explained (net : Net) (m : Counts) (r : Request) : Type 0 where
  pub ten : ((effect net m r).answer.verdict ≡ Refused NoSuchContext) ↔ (size net ≤ r.context)
  pub fourteen : ((effect net m r).answer.verdict ≡ Refused AlreadyOff) ↔ Off net m r
  pub eleven : ((effect net m r).answer.verdict ≡ Refused StepLimitMet) ↔ (Admitted net m r × Unfinished net (step_of net m r))
  pub twelve :
      ((effect net m r).answer.verdict ≡ Refused TokensLeft)
      ↔ (Admitted net m r × Quiet net (step_of net m r) × (clear net (step_of net m r).marking ≡ false))
  pub fifteen :
      ((effect net m r).answer.verdict ≡ Refused NotRaised)
      ↔ (Admitted net m r × Completed net (step_of net m r) × Unraised m r (step_of net m r).marking.count)
  pub granted :
      ((effect net m r).answer.verdict ≡ Granted)
      ↔ (Admitted net m r × Completed net (step_of net m r) × Raises m r (step_of net m r).marking.count)
  -- a granted request leaves the counts of its step's end, a refused one those before it
  pub moved : (effect net m r).answer.verdict ≡ Granted → (effect net m r).counts ≡ (step_of net m r).marking.count
  pub kept : (k : Refusal) → (effect net m r).answer.verdict ≡ Refused k → (effect net m r).counts ≡ m
  -- the firings reported are those made, and the forced ones are those among them
  pub fired : Admitted net m r → (effect net m r).answer.firings ≡ length (step_of net m r).fired
  pub forced : Admitted net m r → (effect net m r).answer.forced ≡ count_passing is_forced (step_of net m r).fired
  pub unfired : (Admitted net m r → ⊥) → ((effect net m r).answer.firings ≡ 0) × ((effect net m r).answer.forced ≡ 0)

-- ---- every list of calls: what holds after it

-- a context that is active
abbrev pub Active : Counts → ℕ → Type 0
Active m c = 0 < m c

-- What the relations promise of counts: none above its capacity, no two active that exclude each other, and nothing active without what it
-- implies and requires.
pub record Rules (net : Net) (m : Counts) : Type 0 where
  pub within : (c : ℕ) → c < size net → m c ≤ capacity net c
  pub excluding : (a b : ℕ) → related net.rels excludes a b ≡ true → Active m a → Active m b → ⊥
  pub implying : (a b : ℕ) → related net.rels implies a b ≡ true → Active m a → Active m b
  pub requiring : (a b : ℕ) → related net.rels requires a b ≡ true → Active m a → Active m b

-- the marking with these counts and empty temporary places
abbrev pub at_rest : Counts → Marking
at_rest m = record { count = m; pr = zeros; pr_not = zeros }

-- resting: nothing can fire, and no rule of a place is broken
pub record Resting (net : Net) (m : Counts) : Type 0 where
  pub within : (c : ℕ) → c < size net → m c ≤ capacity net c
  pub still : next_of net (at_rest m) ≡ none

-- a granted request between these counts: it makes a step, the step completed, and what it was to activate has more tokens than before
pub record Carried (net : Net) (before after : Counts) (r : Request) : Type 0 where
  pub admitted : Admitted net before r
  pub completed : Completed net (step_of net before r)
  pub raises : Raises before r after

-- where the event is a granted request, it was carried out so
abbrev pub Completes : Net → Event → Type 0
Completes net e =
    Each (λ (r : Request). is_granted e.answer.verdict ≡ true → Carried net e.before e.counts r) (requested e.call)

-- the event of a request is what the request comes to at the counts before it: the answer, and the counts after
pub record Made (net : Net) (e : Event) (r : Request) : Type 0 where
  pub answer : e.answer ≡ (effect net e.before r).answer
  pub counts : e.counts ≡ (effect net e.before r).counts

-- how many requests are open after a call, where k were before it and it was granted or not
abbrev pub open_after : ℕ → Call → Bool → ℕ
open_after k c false = k
open_after k (Activate c) true = min (k + 1) 32
open_after k (Deactivate c) true = min (k + 1) 32
open_after k Undo true = k - 1
open_after k Settle true = 0

-- Undo and settling answer as they must, where k requests were open before the events: undo meets 13 exactly where none is, and nothing
-- fires.
abbrev pub ends_open : ℕ → Call → Answer → Type 0
ends_open k (Activate c) a = Unit {0}
ends_open k (Deactivate c) a = Unit {0}
ends_open k Undo a = a ≡ without_firings (cond (eqb k 0) (Refused NothingOpen) Granted)
ends_open k Settle a = a ≡ without_firings Granted

-- the events of a list with k open before it, which leaves l open
pub data Opens : ℕ → List Event → ℕ → Type 0 where
  none_made : {k : ℕ} → Opens k [] k
  then_open : {k l : ℕ} {e : Event} {es : List Event} → ends_open k e.call e.answer
      → Opens (open_after k e.call (is_granted e.answer.verdict)) es l → Opens k (e ∷ es) l

-- a total: how many events add to it, stopped at the limit
abbrev pub total_of : (Call → Verdict → Bool) → List Event → ℕ
total_of adds es = min (count_passing (λ (e : Event). adds e.call e.answer.verdict) es) 4294967295

-- the three totals after these events
pub record Totals (t : Tally) (es : List Event) : Type 0 where
  pub granted : t.granted ≡ total_of adds_granted es
  pub refused : t.refused ≡ total_of adds_refused es
  pub undone : t.undone ≡ total_of adds_undone es

-- the state after the calls and the events of the calls, on a machine that starts with a net at these counts
abbrev pub ending : Net → Counts → List Call → State
ending net m₀ cs = after (begin net m₀) cs

abbrev pub events : Net → Counts → List Call → List Event
events net m₀ cs = log (begin net m₀) cs

-- What holds of the calls of a list taken together. A freshly loaded net starts at zeros (theorem every_list_loaded); the theorem every_list has
-- it from any start that keeps the rules. Besides replay and rules, `listed` and `beyond` say where the history and the other numbers
-- stand, and `forced_bound` what bounds the forced ones.
pub record ListHolds (net : Net) (m₀ : Counts) (cs : List Call) : Type 0 where
  pub net_kept : (ending net m₀ cs).board.net ≡ net
  -- replaying the history gives these very counts
  pub replayed : (ending net m₀ (replayed_calls (events net m₀ cs))).board.counts ≡ (ending net m₀ cs).board.counts
  -- and makes the same events again: each request granted, with its firings, the forced ones among them, and the counts before and after it
  pub regranted : events net m₀ (replayed_calls (events net m₀ cs)) ≡ standing [] (events net m₀ cs)
  pub all_granted : Each (λ (e : Event). is_granted e.answer.verdict ≡ true) (standing [] (events net m₀ cs))
  -- none of them asked to switch off what was off
  pub admitted : Each (λ (e : Event). Each (Admitted net e.before) (requested e.call)) (standing [] (events net m₀ cs))
  -- the history is what was settled and then what is open
  pub listed :
      history (events net m₀ cs) ≡ reverse (requests (ending net m₀ cs).board.opened ++ (ending net m₀ cs).board.settled)
  -- which calls open, close and settle requests, and what undo is answered
  pub opens : Opens 0 (events net m₀ cs) (length (ending net m₀ cs).board.opened)
  pub open_bound : length (ending net m₀ cs).board.opened ≤ 32
  -- every request of the list was answered, and moved, as a request does
  pub made : Each (λ (e : Event). Each (Made net e) (requested e.call)) (events net m₀ cs)
  -- no answer tells of more forced ones than of firings
  pub forced_bound : Each (λ (e : Event). e.answer.forced ≤ e.answer.firings) (events net m₀ cs)
  pub rules : Rules net (ending net m₀ cs).board.counts
  -- a number that is no context keeps its count
  pub beyond : (c : ℕ) → size net ≤ c → (ending net m₀ cs).board.counts c ≡ m₀ c
  pub completed : Each (Completes net) (events net m₀ cs)
  pub totals : Totals (ending net m₀ cs).tally (events net m₀ cs)

-- ---- the image

-- what is known of an accepted image: it is the image of the net that it gives, and that net is valid
pub record Accepted (f : Format) (img : List ℕ) (l : Loaded) : Type 0 where
  pub is_image : image f l.net ≡ img
  pub valid : Valid f l.net

-- what is known of a refused load, and of refused composing
pub record LoadRefused (l : Loaded) : Type 0 where
  pub no_net : l.net ≡ empty_net
  pub no_part : l.part ≡ []

pub record ComposeRefused (out : List ℕ) (c : Composed) : Type 0 where
  pub written_none : c.written ≡ 0
  pub output_kept : c.output ≡ out

-- what is known of reading context c's count on the machine
pub record Reads (s : State) (c : ℕ) : Type 0 where
  pub inside : c < size s.board.net → read_count s c ≡ record { verdict = Granted; value = s.board.counts c }
  pub outside : size s.board.net ≤ c → read_count s c ≡ record { verdict = Refused NoSuchContext; value = 0 }

-- what is known of granted composing of a net into an output with these bytes
pub record Composes (f : Format) (net : Net) (out : List ℕ) (c : Composed) : Type 0 where
  pub valid : Valid f net
  pub fits : length (image f net) ≤ length out
  pub written_is : c.written ≡ length (image f net)
  pub output_is : c.output ≡ image f net ++ drop (length (image f net)) out
