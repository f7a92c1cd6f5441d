-- What holds of the engine after every list of calls on a freshly loaded net (docs/MACHINE.md, "Lists of calls").
-- Assumes nothing.
use Rattle.std.specs.Prelude.{ℕ, ◌≡◌, List, [], ◌∷◌, map}
use Rattle.model.specs.Relations.{Net}
use Rattle.model.specs.Machine.{Event, State, zeros, fresh, after, log, replayed_calls}
use Rattle.model.specs.Image.{edition_1, load}
use Rattle.model.specs.Claims.{ListHolds, Rules, ending, events}
use Rattle.model.specs.declared.Call.{Call}
use Rattle.model.specs.declared.Answer.{Answer}
use Rattle.engine.specs.View.{Replies, Shows, counts_of, tally_of}
use Rattle.engine.specs.declared.engine.Engine.{Engine}

-- A chain of calls from one engine to another, whoever makes them: each call gets the engine that the one before left, and what it
-- gives back meets the contract of a call. These are the answers, in order.
pub data Chain : Engine → List Call → List Answer → Engine → Type 0 where
  none_left : {e : Engine} → Chain e [] [] e
  then : {e next last : Engine} {c : Call} {cs : List Call} {answer : Answer} {answers : List Answer}
      → Replies c e next answer → Chain next cs answers last → Chain e (c ∷ cs) (answer ∷ answers) last

-- the net that an image gives, accepted or refused
abbrev pub loaded : List ℕ → Net
loaded img = (load edition_1 img).net

-- the machine's answers to a list of calls on the net freshly loaded from an image, and its state after them
abbrev pub machine_answers : List ℕ → List Call → List Answer
machine_answers img cs = map (λ (e : Event). e.answer) (log (fresh (loaded img)) cs)

abbrev pub machine_after : List ℕ → List Call → State
machine_after img cs = after (fresh (loaded img)) cs

-- What holds after a list of calls on the net freshly loaded from an image, where the answers were these and the engine is now this one.
pub record Kept (img : List ℕ) (cs : List Call) (answers : List Answer) (engine : Engine) : Type 0 where
  -- every answer is the machine's at its place
  pub answers_are : answers ≡ machine_answers img cs
  -- counts and totals are the machine's, and so is the open list
  pub state_is : Shows engine (machine_after img cs)
  pub counts_are : counts_of engine ≡ (machine_after img cs).board.counts
  pub totals_are : tally_of engine ≡ (machine_after img cs).tally
  -- the history, replayed from zeros, gives the engine's counts
  pub replayed : (ending (loaded img) zeros (replayed_calls (events (loaded img) zeros cs))).board.counts ≡ counts_of engine
  -- exclusion, requirement, implication and capacities hold of the engine's counts
  pub rules : Rules (loaded img) (counts_of engine)
  -- and all else that the model's theorem says: each request of the history granted again with the counts that it had, every granted step
  -- ended with empty temporary places, at most 32 open, totals that count the answers
  pub machine : ListHolds (loaded img) zeros cs
