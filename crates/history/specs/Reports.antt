-- What `run` writes for a list of calls in bytes: the answers, then the state after them.
-- Assumes nothing.
use Rattle.std.specs.Prelude.{ℕ, ◌≡◌, ◌<◌, ◌≤◌, ◌||◌, cond, List, ◌++◌, map, ltb, length, drop, Option, None, Some}
use Rattle.model.specs.Sets.{concat_map}
use Rattle.model.specs.Relations.{Net}
use Rattle.model.specs.Machine.{State, Event, fresh, after, log}
use Rattle.model.specs.declared.Call.{Call}
use Rattle.engine.specs.View.{listed_counts}
use Rattle.history.specs.Encoding.{calls_in, no_calls, answer_bytes, tally_bytes}
use Rattle.history.specs.Chains.{loaded}

-- the count of each context, and the totals
abbrev pub state_bytes : State → List ℕ
state_bytes s = listed_counts s ++ tally_bytes s.tally

-- the answers to calls on a machine, as bytes
abbrev pub answers_from : State → List Call → List ℕ
answers_from s cs = concat_map answer_bytes (map (λ (e : Event). e.answer) (log s cs))

-- what is reported of a list of calls on a machine: the answers in order, then the state after them
unfoldable pub report_from : State → List Call → List ℕ
report_from s cs = answers_from s cs ++ state_bytes (after s cs)

-- the same on the machine of a net before its first call
abbrev pub report : Net → List Call → List ℕ
report net cs = report_from (fresh net) cs

-- the bytes written, and what the output then holds
pub record Ran : Type 0 where
  pub written : ℕ
  pub output : List ℕ

-- A list of calls is run whole or not at all: nothing is written where the bytes are no list of calls, or where the output has no room for
-- the report.
unfoldable pub ran : (image calls output : List ℕ) → Ran
ran img bs out =
    let r = report (loaded img) (calls_in bs) in
    cond (no_calls bs || ltb (length out) (length r)) (record { written = 0; output = out })
    (record { written = length r; output = r ++ drop (length r) out })

-- the report stands at the output's start, and its length is the result; or there is no room for it, and nothing has changed
pub record Reports (report out : List ℕ) (r : Option ℕ) (out' : List ℕ) : Type 0 where
  pub short : length out < length report → (r ≡ None) × (out' ≡ out)
  pub long : length report ≤ length out → (r ≡ Some (length report)) × (out' ≡ report ++ drop (length report) out)
