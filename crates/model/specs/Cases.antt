-- docs/MACHINE.md, "The six conditions": one list of cases that the definitions are held to by computation.
-- Its cases and the other worked examples come first; then the records of the six conditions, the edges of loading and composing, and small
-- nets on which a wrong net or a wrong machine gives another result.
-- Assumes nothing.
use Rattle.std.specs.Prelude.{ℕ, ◌+◌, ◌*◌, Bool, true, false, ◌&&◌, not, List, [], ◌∷◌, ◌++◌, map, eqb, T, length, drop, set, replicate}
use Rattle.model.specs.Sets.{bit, number, all_below, any, all, concat_map, range, equal_lists}
use Rattle.model.specs.Relations.{Net, size, excludes, causes, implies, requires, suggests, same, has_zero, misfit, repeats_after, matches, related, excluded}
use Rattle.model.specs.declared.Relation.{Relation}
use Rattle.model.specs.Transitions.{Role, activates, deactivates, forces, drops, declines, Transition, asks_on, asks_off, act, deac, forced, drop_of, decline_of, extra, context_transitions, extra_transitions, transitions_of}
use Rattle.model.specs.Machine.{Event, fresh, after, log, standing, extend_by, history, step_of, activation, deactivation, initial_marking, concluded, effect, commit, make_request, undo_from, settle, reply, tally_after, respond, reading, board_at}
use Rattle.model.specs.declared.Request.{Request}
use Rattle.model.specs.Image.{edition_1, image, records, trailer, trailer_bytes, trailer_of, compose, load, transition_count, set_bytes, record_bytes, relation_bytes, bad_sizes, bad_layout, net_of, records_of, other_records}
use Rattle.model.specs.Firing.{below_capacity, ready_at, ready, enabled, next, fire, stopped, after_firing, fire_until_quiet, clear}
use Rattle.model.specs.SixConditions.{relation, six_conditions}
use Rattle.model.specs.declared.Call.{Call}
use Rattle.model.specs.declared.Call.TheVariants.{Activate, Deactivate, Undo, Settle}
use Rattle.model.specs.declared.Verdict.{Verdict}
use Rattle.model.specs.Refusals.{verdict_number}

-- the number of a granted call
abbrev granted : ℕ
granted = 0

-- what a call answers and leaves: its verdict, its firings and how many of them were forced, and the counts after it, context by context
pub record Line : Type 0 where
  pub verdict : ℕ
  pub firings : ℕ
  pub forced : ℕ
  pub counts : List ℕ

abbrev line : (verdict firings forced : ℕ) → List ℕ → Line
line v k j m = record { verdict = v; firings = k; forced = j; counts = m }

-- what a case says
pub data Case : Type 0 where
  -- calls on a fresh net, with a line for each
  run : Net → List Call → List Line → Case
  -- the same, where the net's first two relations may stand in either order
  run_either : (caps : List ℕ) → (r s : Relation) → (more : List Relation) → List Call → List Line → Case
  -- calls on a fresh net, with each one's verdict
  verdicts : Net → List Call → List ℕ → Case
  -- calls on a fresh net, and the three totals after them
  totals : Net → List Call → (granted' refused undone : ℕ) → Case
  -- calls on a fresh net, and the history that they leave, a request being 2c for +c and 2c + 1 for -c
  leaves_history : Net → List Call → List ℕ → Case
  -- calls on a fresh net, and the roles of what fires in the step that a request makes then
  fires : Net → List Call → Request → List Role → Case
  -- a net's t, and its image's distances and length
  sizes : Net → (t to_relations to_records length : ℕ) → Case
  -- A net of at most 8 contexts and its records. Of each are given the priority and the first byte of each set; the others are 0.
  rows : Net → List (List ℕ) → Case
  -- The same of a net whose two relations may stand in either order: the last two rows are theirs, and stand in the same order.
  rows_either : (caps : List ℕ) → (r s : Relation) → (contexts : List (List ℕ)) → (of_r of_s : List ℕ) → Case
  -- a set of these contexts in w bytes
  in_bytes : (w : ℕ) → List ℕ → List ℕ → Case
  -- the last bytes of a net's image
  ends : Net → (from : ℕ) → List ℕ → Case
  -- reading a count in a net of n contexts
  reads : (n c count verdict value : ℕ) → Case
  -- loading an image
  loads : List ℕ → (verdict : ℕ) → Case
  -- composing, into an output of this length
  composes : (caps relations : List ℕ) → (room verdict : ℕ) → Case
  -- composing into an output with these bytes, and what it then holds from a place on
  leaves_output : (caps relations output : List ℕ) → (from : ℕ) → List ℕ → Case

-- the smallest net
abbrev one_context : Net
one_context = record { caps = 7 ∷ []; rels = [] }

-- two contexts, the first of which causes the second: 2 + 3 + 5 · 49 + 8 bytes
abbrev pair : Net
pair = record { caps = 3 ∷ 3 ∷ []; rels = relation causes 0 1 ∷ [] }

unfoldable pub pair_image : List ℕ
pair_image = image edition_1 pair

-- what an image would be that says t and holds these records
abbrev pair_with : ℕ → List ℕ → List ℕ
pair_with t recs = 3 ∷ 3 ∷ causes ∷ 0 ∷ 1 ∷ recs ++ trailer_bytes edition_1 (trailer edition_1 2 1 t)

-- where 2 goes, 0 and then 1 are forced off, and 1 asks 0 off, which is off already
abbrev forced_in_vain : Net
forced_in_vain = record { caps = 1 ∷ 1 ∷ 1 ∷ []; rels = relation requires 0 2 ∷ relation implies 1 2 ∷ relation implies 1 0 ∷ [] }

-- 0 implies 1, which 2 excludes and suggests: where 2 is on, what 0 asks for is declined
abbrev declined_implication : Net
declined_implication = record { caps = 1 ∷ 1 ∷ 1 ∷ []; rels = relation implies 0 1 ∷ relation excludes 1 2 ∷ relation suggests 2 1 ∷ [] }

-- a suggestion alone
abbrev suggestion : Net
suggestion = record { caps = 3 ∷ 3 ∷ []; rels = relation suggests 0 1 ∷ [] }

-- the same, where 1 has room for one token alone
abbrev full_target : Net
full_target = record { caps = 2 ∷ 1 ∷ []; rels = relation suggests 0 1 ∷ [] }

-- 0 suggests 1 and 2, which exclude each other, and 1 suggests 2 as well
abbrev suggested_twice : Net
suggested_twice =
    record {
      caps = 1 ∷ 1 ∷ 1 ∷ [];
      rels = relation suggests 0 1 ∷ relation excludes 1 2 ∷ relation suggests 1 2 ∷ relation suggests 0 2 ∷ [];
    }

-- 0 causes 1, which implies 2 and causes 4; 3 excludes 2 and suggests 2 and 4, in the order given.
abbrev declined_order : (first second : ℕ) → Net
declined_order x y =
    record {
      caps = 1 ∷ 1 ∷ 1 ∷ 1 ∷ 1 ∷ [];
      rels =
          relation causes 0 1 ∷ relation suggests 3 x ∷ relation suggests 3 y ∷ relation implies 1 2 ∷ relation excludes 2 3
          ∷ relation causes 1 4 ∷ [];
    }

-- the bytes of an exclusion of 0 and 1, and of each other kind in both directions
abbrev all_kinds : List ℕ
all_kinds = excludes ∷ 0 ∷ 1 ∷ concat_map (λ k. k ∷ 0 ∷ 1 ∷ k ∷ 1 ∷ 0 ∷ []) (causes ∷ implies ∷ requires ∷ suggests ∷ [])

-- Calls that several cases make: 5 switched off, and once more in vain; two refused in a row, and undo; those of the listing of bench-run;
-- and, where 2 declines what 0 asks for, the same once 2 is undone.
abbrev off_once_more : List Call
off_once_more = Activate 3 ∷ Deactivate 5 ∷ Deactivate 5 ∷ Deactivate 3 ∷ []

abbrev refused_twice : List Call
refused_twice = Activate 0 ∷ Activate 0 ∷ Activate 6 ∷ Undo ∷ []

abbrev bench_calls : List Call
bench_calls = Activate 0 ∷ Activate 4 ∷ Activate 3 ∷ Deactivate 0 ∷ Undo ∷ Undo ∷ Settle ∷ Undo ∷ []

abbrev declined_and_undone : List Call
declined_and_undone = Activate 2 ∷ Activate 0 ∷ Undo ∷ Activate 0 ∷ []

-- Every case starts with a fresh net. In the comments + activates and - deactivates.
unfoldable pub cases : List Case
cases =
    -- requirement unmet: +1 lacks what it requires
    run six_conditions (Activate 1 ∷ []) (line 12 0 0 (0 ∷ 0 ∷ 0 ∷ 0 ∷ 0 ∷ 0 ∷ []) ∷ [])
    -- full: +0 twice, at a capacity of 1
    ∷ run six_conditions (Activate 0 ∷ Activate 0 ∷ [])
    (line granted 1 0 (1 ∷ 0 ∷ 0 ∷ 0 ∷ 0 ∷ 0 ∷ []) ∷ line 12 0 0 (1 ∷ 0 ∷ 0 ∷ 0 ∷ 0 ∷ 0 ∷ []) ∷ [])
    -- brings along: +3 brings 2 and 5 along
    ∷ run six_conditions (Activate 3 ∷ []) (line granted 3 0 (0 ∷ 0 ∷ 1 ∷ 1 ∷ 0 ∷ 1 ∷ []) ∷ [])
    -- pulls down: -2 after it takes 3 and 5 down too; of the three firings that of 3 is forced
    ∷ run six_conditions (Activate 3 ∷ Deactivate 2 ∷ [])
    (line granted 3 0 (0 ∷ 0 ∷ 1 ∷ 1 ∷ 0 ∷ 1 ∷ []) ∷ line granted 3 1 (0 ∷ 0 ∷ 0 ∷ 0 ∷ 0 ∷ 0 ∷ []) ∷ [])
    -- drop: -3 after -5 asks 5 off once more, which a drop swallows
    ∷ run six_conditions (Activate 3 ∷ Deactivate 5 ∷ Deactivate 3 ∷ [])
    (line granted 3 0 (0 ∷ 0 ∷ 1 ∷ 1 ∷ 0 ∷ 1 ∷ [])
    ∷ line granted 1 0 (0 ∷ 0 ∷ 1 ∷ 1 ∷ 0 ∷ 0 ∷ [])
    ∷ line granted 3 0 (0 ∷ 0 ∷ 0 ∷ 0 ∷ 0 ∷ 0 ∷ [])
    ∷ [])
    ∷ fires six_conditions (Activate 3 ∷ Deactivate 5 ∷ []) (deactivation 3) (deactivates ∷ deactivates ∷ drops ∷ [])
    -- token by token: +3 twice, -2 twice; only the last -2 forces, each token of 3 by itself
    ∷ run six_conditions (Activate 3 ∷ Activate 3 ∷ Deactivate 2 ∷ Deactivate 2 ∷ [])
    (line granted 3 0 (0 ∷ 0 ∷ 1 ∷ 1 ∷ 0 ∷ 1 ∷ [])
    ∷ line granted 3 0 (0 ∷ 0 ∷ 2 ∷ 2 ∷ 0 ∷ 2 ∷ [])
    ∷ line granted 1 0 (0 ∷ 0 ∷ 1 ∷ 2 ∷ 0 ∷ 2 ∷ [])
    ∷ line granted 5 2 (0 ∷ 0 ∷ 0 ∷ 0 ∷ 0 ∷ 0 ∷ [])
    ∷ [])
    -- rolled back: +3 cannot power an instrument whose battery is out; its firings are rolled back
    ∷ run six_conditions (Activate 0 ∷ Activate 4 ∷ Activate 3 ∷ [])
    (line granted 1 0 (1 ∷ 0 ∷ 0 ∷ 0 ∷ 0 ∷ 0 ∷ [])
    ∷ line granted 1 0 (1 ∷ 0 ∷ 0 ∷ 0 ∷ 1 ∷ 0 ∷ [])
    ∷ line 12 2 0 (1 ∷ 0 ∷ 0 ∷ 0 ∷ 1 ∷ 0 ∷ [])
    ∷ [])
    -- off already: off where nothing is on, whether a drop could serve it (-5) or not (-2)
    ∷ run six_conditions (Deactivate 5 ∷ []) (line 14 0 0 (0 ∷ 0 ∷ 0 ∷ 0 ∷ 0 ∷ 0 ∷ []) ∷ [])
    ∷ run six_conditions (Deactivate 2 ∷ []) (line 14 0 0 (0 ∷ 0 ∷ 0 ∷ 0 ∷ 0 ∷ 0 ∷ []) ∷ [])
    -- the same in the middle of a list: -5 once more, where 3 still causes it; then the cascade of -3 drops as there
    ∷ run six_conditions off_once_more
    (line granted 3 0 (0 ∷ 0 ∷ 1 ∷ 1 ∷ 0 ∷ 1 ∷ [])
    ∷ line granted 1 0 (0 ∷ 0 ∷ 1 ∷ 1 ∷ 0 ∷ 0 ∷ [])
    ∷ line 14 0 0 (0 ∷ 0 ∷ 1 ∷ 1 ∷ 0 ∷ 0 ∷ [])
    ∷ line granted 3 0 (0 ∷ 0 ∷ 0 ∷ 0 ∷ 0 ∷ 0 ∷ [])
    ∷ [])
    -- such a request counts as refused and is in no history
    ∷ totals six_conditions off_once_more 3 1 0
    ∷ leaves_history six_conditions off_once_more (6 ∷ 11 ∷ 7 ∷ [])
    -- a drop serves a forced transition too: -2 forces 3, which asks 5 off
    ∷ run six_conditions (Activate 3 ∷ Deactivate 5 ∷ Deactivate 2 ∷ [])
    (line granted 3 0 (0 ∷ 0 ∷ 1 ∷ 1 ∷ 0 ∷ 1 ∷ [])
    ∷ line granted 1 0 (0 ∷ 0 ∷ 1 ∷ 1 ∷ 0 ∷ 0 ∷ [])
    ∷ line granted 3 1 (0 ∷ 0 ∷ 0 ∷ 0 ∷ 0 ∷ 0 ∷ [])
    ∷ [])
    ∷ fires six_conditions (Activate 3 ∷ Deactivate 5 ∷ []) (deactivation 2) (deactivates ∷ forces ∷ drops ∷ [])
    -- the requested context is forced too: -3 leaves 3 a token without 2
    ∷ run six_conditions (Activate 3 ∷ Activate 3 ∷ Deactivate 2 ∷ Deactivate 3 ∷ [])
    (line granted 3 0 (0 ∷ 0 ∷ 1 ∷ 1 ∷ 0 ∷ 1 ∷ [])
    ∷ line granted 3 0 (0 ∷ 0 ∷ 2 ∷ 2 ∷ 0 ∷ 2 ∷ [])
    ∷ line granted 1 0 (0 ∷ 0 ∷ 1 ∷ 2 ∷ 0 ∷ 2 ∷ [])
    ∷ line granted 5 1 (0 ∷ 0 ∷ 0 ∷ 0 ∷ 0 ∷ 0 ∷ [])
    ∷ [])
    -- what one request forced is not told again by the next: by one refused with 14 or 10, or by one that forces none
    ∷ run six_conditions (Activate 3 ∷ Deactivate 2 ∷ Deactivate 2 ∷ Activate 6 ∷ Activate 3 ∷ [])
    (line granted 3 0 (0 ∷ 0 ∷ 1 ∷ 1 ∷ 0 ∷ 1 ∷ [])
    ∷ line granted 3 1 (0 ∷ 0 ∷ 0 ∷ 0 ∷ 0 ∷ 0 ∷ [])
    ∷ line 14 0 0 (0 ∷ 0 ∷ 0 ∷ 0 ∷ 0 ∷ 0 ∷ [])
    ∷ line 10 0 0 (0 ∷ 0 ∷ 0 ∷ 0 ∷ 0 ∷ 0 ∷ [])
    ∷ line granted 3 0 (0 ∷ 0 ∷ 1 ∷ 1 ∷ 0 ∷ 1 ∷ [])
    ∷ [])
    -- -0 forces 1 and both tokens of 4, which require it
    ∷ run six_conditions (Activate 0 ∷ Activate 1 ∷ Activate 4 ∷ Activate 4 ∷ Deactivate 0 ∷ [])
    (line granted 1 0 (1 ∷ 0 ∷ 0 ∷ 0 ∷ 0 ∷ 0 ∷ [])
    ∷ line granted 1 0 (1 ∷ 1 ∷ 0 ∷ 0 ∷ 0 ∷ 0 ∷ [])
    ∷ line granted 1 0 (1 ∷ 1 ∷ 0 ∷ 0 ∷ 1 ∷ 0 ∷ [])
    ∷ line granted 1 0 (1 ∷ 1 ∷ 0 ∷ 0 ∷ 2 ∷ 0 ∷ [])
    ∷ line granted 4 3 (0 ∷ 0 ∷ 0 ∷ 0 ∷ 0 ∷ 0 ∷ [])
    ∷ [])
    -- 5 can go as often as it came, and not once more; the refused request opens nothing, so undo takes back the one before it
    ∷ verdicts six_conditions (Activate 5 ∷ Activate 5 ∷ Deactivate 5 ∷ Deactivate 5 ∷ Deactivate 5 ∷ Undo ∷ Deactivate 5 ∷ [])
    (granted ∷ granted ∷ granted ∷ granted ∷ 14 ∷ granted ∷ granted ∷ [])
    -- 10 goes before 14, on a board where every count is 0; an activation at count 0 never meets 14
    ∷ run six_conditions (Deactivate 6 ∷ Activate 6 ∷ Activate 5 ∷ [])
    (line 10 0 0 (0 ∷ 0 ∷ 0 ∷ 0 ∷ 0 ∷ 0 ∷ [])
    ∷ line 10 0 0 (0 ∷ 0 ∷ 0 ∷ 0 ∷ 0 ∷ 0 ∷ [])
    ∷ line granted 1 0 (0 ∷ 0 ∷ 0 ∷ 0 ∷ 0 ∷ 1 ∷ [])
    ∷ [])
    -- the smallest image
    ∷ sizes one_context 2 98 98 107
    -- the sizes of the six conditions
    ∷ sizes six_conditions 16 799 784 813
    -- the listing of bench-run, its totals and its history
    ∷ run six_conditions bench_calls
    (line granted 1 0 (1 ∷ 0 ∷ 0 ∷ 0 ∷ 0 ∷ 0 ∷ [])
    ∷ line granted 1 0 (1 ∷ 0 ∷ 0 ∷ 0 ∷ 1 ∷ 0 ∷ [])
    ∷ line 12 2 0 (1 ∷ 0 ∷ 0 ∷ 0 ∷ 1 ∷ 0 ∷ [])
    ∷ line granted 2 1 (0 ∷ 0 ∷ 0 ∷ 0 ∷ 0 ∷ 0 ∷ [])
    ∷ line granted 0 0 (1 ∷ 0 ∷ 0 ∷ 0 ∷ 1 ∷ 0 ∷ [])
    ∷ line granted 0 0 (1 ∷ 0 ∷ 0 ∷ 0 ∷ 0 ∷ 0 ∷ [])
    ∷ line granted 0 0 (1 ∷ 0 ∷ 0 ∷ 0 ∷ 0 ∷ 0 ∷ [])
    ∷ line 13 0 0 (1 ∷ 0 ∷ 0 ∷ 0 ∷ 0 ∷ 0 ∷ [])
    ∷ [])
    ∷ totals six_conditions bench_calls 3 2 2
    ∷ leaves_history six_conditions bench_calls (0 ∷ [])
    -- 33 activations, of which 32 can be undone
    ∷ verdicts six_conditions (replicate 33 (Activate 5) ++ replicate 33 Undo) (replicate 65 granted ++ (13 ∷ []))
    -- a refused request keeps the open list, and refusal 10 counts
    ∷ verdicts six_conditions refused_twice (granted ∷ 12 ∷ 10 ∷ granted ∷ [])
    ∷ totals six_conditions refused_twice 1 2 1
    -- a ring of three implications at capacity 2: refused when all are full, as the ring of 16 is at 255
    ∷ run (record { caps = 2 ∷ 2 ∷ 2 ∷ []; rels = relation implies 0 1 ∷ relation implies 1 2 ∷ relation implies 2 0 ∷ [] }) (Activate 0 ∷ [])
    (line 12 6 0 (0 ∷ 0 ∷ 0 ∷ []) ∷ [])
    -- the records of the six conditions: act and deac of 0 to 5, then the extra transitions of 1 requires 0, 3 implies 2,
    -- 4 requires 0 and 3 causes 5
    ∷ rows six_conditions
    ((2 ∷ 0 ∷ 1 ∷ 0 ∷ 1 ∷ 0 ∷ 0 ∷ 0 ∷ 0 ∷ [])
    ∷ (2 ∷ 1 ∷ 0 ∷ 1 ∷ 0 ∷ 0 ∷ 0 ∷ 0 ∷ 0 ∷ [])
    ∷ (2 ∷ 1 ∷ 2 ∷ 0 ∷ 3 ∷ 0 ∷ 0 ∷ 0 ∷ 0 ∷ [])
    ∷ (2 ∷ 2 ∷ 0 ∷ 2 ∷ 0 ∷ 0 ∷ 0 ∷ 0 ∷ 0 ∷ [])
    ∷ (2 ∷ 0 ∷ 4 ∷ 0 ∷ 4 ∷ 0 ∷ 0 ∷ 16 ∷ 0 ∷ [])
    ∷ (2 ∷ 4 ∷ 0 ∷ 4 ∷ 0 ∷ 0 ∷ 0 ∷ 0 ∷ 0 ∷ [])
    ∷ (2 ∷ 0 ∷ 8 ∷ 0 ∷ 8 ∷ 36 ∷ 0 ∷ 0 ∷ 0 ∷ [])
    ∷ (2 ∷ 8 ∷ 0 ∷ 8 ∷ 0 ∷ 0 ∷ 36 ∷ 0 ∷ 0 ∷ [])
    ∷ (2 ∷ 1 ∷ 16 ∷ 0 ∷ 17 ∷ 0 ∷ 0 ∷ 4 ∷ 0 ∷ [])
    ∷ (2 ∷ 16 ∷ 0 ∷ 16 ∷ 0 ∷ 0 ∷ 0 ∷ 0 ∷ 0 ∷ [])
    ∷ (2 ∷ 0 ∷ 32 ∷ 0 ∷ 32 ∷ 0 ∷ 0 ∷ 0 ∷ 0 ∷ [])
    ∷ (2 ∷ 32 ∷ 0 ∷ 32 ∷ 0 ∷ 0 ∷ 0 ∷ 0 ∷ 0 ∷ [])
    ∷ (2 ∷ 2 ∷ 0 ∷ 0 ∷ 0 ∷ 0 ∷ 0 ∷ 1 ∷ 0 ∷ [])
    ∷ (2 ∷ 8 ∷ 0 ∷ 0 ∷ 0 ∷ 0 ∷ 32 ∷ 4 ∷ 4 ∷ [])
    ∷ (2 ∷ 16 ∷ 0 ∷ 0 ∷ 0 ∷ 0 ∷ 0 ∷ 1 ∷ 0 ∷ [])
    ∷ (1 ∷ 0 ∷ 0 ∷ 32 ∷ 0 ∷ 0 ∷ 0 ∷ 32 ∷ 0 ∷ [])
    ∷ [])
    ∷ ends six_conditions 805 (31 ∷ 3 ∷ 16 ∷ 3 ∷ 6 ∷ 5 ∷ 16 ∷ 1 ∷ [])
    -- what a required context requires or excludes does not pass on to the one that requires it
    ∷ rows
    (record { caps = 1 ∷ 1 ∷ 1 ∷ 1 ∷ []; rels = relation requires 0 1 ∷ relation requires 1 2 ∷ relation excludes 1 3 ∷ [] })
    ((2 ∷ 2 ∷ 1 ∷ 0 ∷ 3 ∷ 0 ∷ 0 ∷ 0 ∷ 0 ∷ [])
    ∷ (2 ∷ 1 ∷ 0 ∷ 1 ∷ 0 ∷ 0 ∷ 0 ∷ 0 ∷ 0 ∷ [])
    ∷ (2 ∷ 4 ∷ 2 ∷ 0 ∷ 6 ∷ 0 ∷ 0 ∷ 8 ∷ 0 ∷ [])
    ∷ (2 ∷ 2 ∷ 0 ∷ 2 ∷ 0 ∷ 0 ∷ 0 ∷ 0 ∷ 0 ∷ [])
    ∷ (2 ∷ 0 ∷ 4 ∷ 0 ∷ 4 ∷ 0 ∷ 0 ∷ 0 ∷ 0 ∷ [])
    ∷ (2 ∷ 4 ∷ 0 ∷ 4 ∷ 0 ∷ 0 ∷ 0 ∷ 0 ∷ 0 ∷ [])
    ∷ (2 ∷ 0 ∷ 8 ∷ 0 ∷ 8 ∷ 0 ∷ 0 ∷ 2 ∷ 0 ∷ [])
    ∷ (2 ∷ 8 ∷ 0 ∷ 8 ∷ 0 ∷ 0 ∷ 0 ∷ 0 ∷ 0 ∷ [])
    ∷ (2 ∷ 1 ∷ 0 ∷ 0 ∷ 0 ∷ 0 ∷ 0 ∷ 2 ∷ 0 ∷ [])
    ∷ (2 ∷ 2 ∷ 0 ∷ 0 ∷ 0 ∷ 0 ∷ 0 ∷ 4 ∷ 0 ∷ [])
    ∷ [])
    -- where a context's bit stands
    ∷ in_bytes 6 (0 ∷ 9 ∷ 15 ∷ 47 ∷ []) (1 ∷ 130 ∷ 0 ∷ 0 ∷ 0 ∷ 128 ∷ [])
    -- reading a count: below n, and at n
    ∷ reads 6 5 3 granted 3
    ∷ reads 6 6 3 10 0
    ∷ reads 0 0 0 10 0
    -- loading: 1, and 2 before all else that a trailer says
    ∷ loads [] 1
    ∷ loads (replicate 7 0) 1
    ∷ loads (replicate 8 0) 2
    ∷ loads (set (set pair_image 257 2) 254 0) 2
    -- 3: n = 0, n = 49, r = 97; before 4
    ∷ loads (set pair_image 254 0) 3
    ∷ loads (set pair_image 254 49) 3
    ∷ loads (set (set pair_image 255 97) 250 0) 3
    -- 4: either distance, a longer and a shorter image, t alone; before 5
    ∷ loads (set pair_image 250 247) 4
    ∷ loads (set pair_image 252 244) 4
    ∷ loads (3 ∷ pair_image) 4
    ∷ loads (drop 1 pair_image) 4
    ∷ loads (set (set pair_image 256 4) 0 0) 4
    -- 5, before 6
    ∷ loads (set pair_image 0 0) 5
    ∷ loads (set (set pair_image 1 0) 2 6) 5
    -- 6: the kind, an end, equal ends; of all relations before 7, and before 9
    ∷ loads (set pair_image 2 0) 6
    ∷ loads (set pair_image 2 6) 6
    ∷ loads (set pair_image 4 2) 6
    ∷ loads (set (set pair_image 3 1) 5 1) 6
    ∷ loads (image edition_1 (record { caps = 3 ∷ 3 ∷ []; rels = relation causes 0 1 ∷ relation causes 0 1 ∷ relation 6 0 1 ∷ [] })) 6
    -- 7: the same, an exclusion exchanged; another kind's ends exchanged are no repetition
    ∷ loads (image edition_1 (record { caps = 3 ∷ 3 ∷ []; rels = relation causes 0 1 ∷ relation causes 0 1 ∷ [] })) 7
    ∷ loads (image edition_1 (record { caps = 3 ∷ 3 ∷ []; rels = relation excludes 0 1 ∷ relation excludes 1 0 ∷ [] })) 7
    ∷ loads (image edition_1 (record { caps = 3 ∷ 3 ∷ []; rels = relation causes 0 1 ∷ relation causes 1 0 ∷ [] })) granted
    -- 9: a priority, an unused bit, a wrong t with as many records as it says
    ∷ loads (set pair_image 5 1) 9
    ∷ loads (set pair_image 6 128) 9
    ∷ loads (pair_with 0 []) 9
    ∷ loads (pair_with 6 (records edition_1 pair ++ replicate 49 0)) 9
    ∷ loads (pair_with 5 (records edition_1 pair)) granted
    ∷ loads (image edition_1 six_conditions) granted
    -- composing: 3 before 5 before 6 before 7 before 8
    ∷ composes [] [] 999 3
    ∷ composes (replicate 49 1) [] 9999 3
    ∷ composes (3 ∷ 3 ∷ []) (2 ∷ 0 ∷ []) 999 3
    ∷ composes (0 ∷ 3 ∷ []) (2 ∷ 0 ∷ []) 999 3
    ∷ composes (0 ∷ 3 ∷ []) (9 ∷ 0 ∷ 1 ∷ []) 999 5
    ∷ composes (3 ∷ 3 ∷ []) (2 ∷ 0 ∷ 1 ∷ 2 ∷ 0 ∷ 1 ∷ 6 ∷ 0 ∷ 1 ∷ []) 0 6
    ∷ composes (3 ∷ 3 ∷ []) (2 ∷ 0 ∷ 2 ∷ []) 0 6
    ∷ composes (3 ∷ 3 ∷ []) (2 ∷ 1 ∷ 1 ∷ []) 0 6
    ∷ composes (3 ∷ 3 ∷ []) (2 ∷ 0 ∷ 1 ∷ 2 ∷ 0 ∷ 1 ∷ []) 0 7
    ∷ composes (3 ∷ 3 ∷ []) (1 ∷ 0 ∷ 1 ∷ 1 ∷ 1 ∷ 0 ∷ []) 999 7
    ∷ composes (3 ∷ 3 ∷ []) (2 ∷ 0 ∷ 1 ∷ 2 ∷ 1 ∷ 0 ∷ []) 310 granted
    -- an end too large on either side; a repetition with another relation between; an exclusion and another kind on the same ends
    ∷ composes (3 ∷ 3 ∷ []) (2 ∷ 2 ∷ 0 ∷ []) 0 6
    ∷ composes (3 ∷ 3 ∷ []) (2 ∷ 0 ∷ 1 ∷ 2 ∷ 1 ∷ 0 ∷ 2 ∷ 0 ∷ 1 ∷ []) 0 7
    ∷ composes (3 ∷ 3 ∷ []) (1 ∷ 0 ∷ 1 ∷ 2 ∷ 1 ∷ 0 ∷ []) 261 granted
    -- the largest n and r pass 3, and one relation more does not
    ∷ composes (replicate 48 1) [] 0 8
    ∷ composes (3 ∷ 3 ∷ []) (concat_map (λ i. 2 ∷ 0 ∷ 1 ∷ []) (range 0 96)) 0 7
    ∷ composes (3 ∷ 3 ∷ []) (concat_map (λ i. 2 ∷ 0 ∷ 1 ∷ []) (range 0 97)) 0 3
    ∷ composes (7 ∷ []) [] 106 8
    ∷ composes (7 ∷ []) [] 107 granted
    -- what composing leaves of an output: one longer than the image, one too short
    ∷ leaves_output (7 ∷ []) [] (replicate 109 9) 106 (1 ∷ 9 ∷ 9 ∷ [])
    ∷ leaves_output (7 ∷ []) [] (replicate 106 9) 0 (replicate 106 9)
    -- calls on the net of a refused load
    ∷ run (load edition_1 []).net (Activate 0 ∷ Deactivate 0 ∷ Undo ∷ Settle ∷ [])
    (line 10 0 0 [] ∷ line 10 0 0 [] ∷ line 13 0 0 [] ∷ line granted 0 0 [] ∷ [])
    -- 10 is met before anything fires, at n and beyond
    ∷ verdicts six_conditions (Activate 6 ∷ Deactivate 255 ∷ []) (10 ∷ 10 ∷ [])
    -- the second wrong net: the required 1 that act(0) takes and gives back is no activation of 1
    ∷ run (record { caps = 2 ∷ 2 ∷ []; rels = relation requires 0 1 ∷ relation causes 1 0 ∷ [] }) (Activate 1 ∷ [])
    (line granted 2 0 (1 ∷ 1 ∷ []) ∷ [])
    -- the fourth wrong net: an arc of an earlier relation at a later implication, and at a later requirement
    ∷ run (record { caps = 3 ∷ 3 ∷ 2 ∷ []; rels = relation implies 1 2 ∷ relation implies 1 0 ∷ [] }) (Activate 1 ∷ Deactivate 0 ∷ [])
    (line granted 3 0 (1 ∷ 1 ∷ 1 ∷ []) ∷ line granted 3 1 (0 ∷ 0 ∷ 0 ∷ []) ∷ [])
    ∷ run (record { caps = 3 ∷ 3 ∷ 3 ∷ []; rels = relation causes 0 1 ∷ relation requires 0 2 ∷ [] })
    (Activate 2 ∷ Activate 0 ∷ Deactivate 2 ∷ [])
    (line granted 1 0 (0 ∷ 0 ∷ 1 ∷ []) ∷ line granted 2 0 (1 ∷ 1 ∷ 1 ∷ []) ∷ line granted 3 1 (0 ∷ 0 ∷ 0 ∷ []) ∷ [])
    -- the lowest number, not the highest
    ∷ run (record { caps = 2 ∷ 3 ∷ []; rels = relation implies 1 0 ∷ relation requires 0 1 ∷ [] }) (Activate 1 ∷ Deactivate 1 ∷ [])
    (line granted 2 0 (1 ∷ 1 ∷ []) ∷ line granted 2 0 (0 ∷ 0 ∷ []) ∷ [])
    ∷ run
    (record { caps = 1 ∷ 1 ∷ 1 ∷ 1 ∷ []; rels = relation causes 0 1 ∷ relation causes 0 2 ∷ relation excludes 1 2 ∷ relation causes 1 3 ∷ [] })
    (Activate 0 ∷ [])
    (line 12 3 0 (0 ∷ 0 ∷ 0 ∷ 0 ∷ []) ∷ [])
    -- the extra transitions in the order of the relations
    ∷ run (record { caps = 3 ∷ 2 ∷ 3 ∷ []; rels = relation implies 0 1 ∷ relation requires 2 1 ∷ relation implies 0 2 ∷ [] })
    (Activate 0 ∷ Deactivate 1 ∷ [])
    (line granted 3 0 (1 ∷ 1 ∷ 1 ∷ []) ∷ line granted 3 1 (0 ∷ 0 ∷ 0 ∷ []) ∷ [])
    -- the same of two forced ones, which are told though the step is rolled back; the request behind it forces none
    ∷ run forced_in_vain (Activate 1 ∷ Deactivate 2 ∷ Deactivate 1 ∷ [])
    (line granted 3 0 (1 ∷ 1 ∷ 1 ∷ []) ∷ line 12 3 2 (1 ∷ 1 ∷ 1 ∷ []) ∷ line granted 3 0 (0 ∷ 0 ∷ 0 ∷ []) ∷ [])
    ∷ fires forced_in_vain (Activate 1 ∷ []) (deactivation 2) (deactivates ∷ forces ∷ forces ∷ [])
    -- a forced transition never asks off what inhibits it, that of a requirement neither
    ∷ run (record { caps = 2 ∷ 1 ∷ []; rels = relation causes 1 0 ∷ relation implies 1 0 ∷ [] }) (Activate 1 ∷ Deactivate 0 ∷ [])
    (line granted 2 0 (1 ∷ 1 ∷ []) ∷ line granted 2 1 (0 ∷ 0 ∷ []) ∷ [])
    ∷ run (record { caps = 3 ∷ 2 ∷ []; rels = relation causes 1 0 ∷ relation requires 1 0 ∷ [] })
    (Activate 0 ∷ Activate 1 ∷ Deactivate 0 ∷ Deactivate 0 ∷ [])
    (line granted 1 0 (1 ∷ 0 ∷ [])
    ∷ line granted 2 0 (2 ∷ 1 ∷ [])
    ∷ line granted 1 0 (1 ∷ 1 ∷ [])
    ∷ line granted 2 1 (0 ∷ 0 ∷ [])
    ∷ [])
    ∷ run (record { caps = 3 ∷ 2 ∷ []; rels = relation requires 1 0 ∷ relation implies 1 0 ∷ [] })
    (Activate 0 ∷ Activate 1 ∷ Deactivate 0 ∷ Deactivate 0 ∷ [])
    (line granted 1 0 (1 ∷ 0 ∷ [])
    ∷ line granted 2 0 (2 ∷ 1 ∷ [])
    ∷ line granted 1 0 (1 ∷ 1 ∷ [])
    ∷ line granted 2 1 (0 ∷ 0 ∷ [])
    ∷ [])
    -- A suggestion that is taken; where its source goes, by request or forced, the target stays.
    ∷ run (record { caps = 2 ∷ 2 ∷ []; rels = relation suggests 0 1 ∷ [] }) (Activate 0 ∷ Deactivate 0 ∷ [])
    (line granted 2 0 (1 ∷ 1 ∷ []) ∷ line granted 1 0 (0 ∷ 1 ∷ []) ∷ [])
    ∷ run (record { caps = 1 ∷ 1 ∷ 1 ∷ []; rels = relation suggests 0 1 ∷ relation requires 0 2 ∷ [] }) (Activate 2 ∷ Activate 0 ∷ Deactivate 2 ∷ [])
    (line granted 1 0 (0 ∷ 0 ∷ 1 ∷ []) ∷ line granted 2 0 (1 ∷ 1 ∷ 1 ∷ []) ∷ line granted 2 1 (0 ∷ 1 ∷ 0 ∷ []) ∷ [])
    -- one that is declined: by an exclusion, for want of what its target requires, and at the capacity, where the target is on
    ∷ run (record { caps = 1 ∷ 1 ∷ 1 ∷ []; rels = relation suggests 0 1 ∷ relation excludes 1 2 ∷ [] }) (Activate 2 ∷ Activate 0 ∷ [])
    (line granted 1 0 (0 ∷ 0 ∷ 1 ∷ []) ∷ line granted 2 0 (1 ∷ 0 ∷ 1 ∷ []) ∷ [])
    ∷ run (record { caps = 1 ∷ 1 ∷ 1 ∷ []; rels = relation suggests 0 1 ∷ relation requires 1 2 ∷ [] }) (Activate 0 ∷ [])
    (line granted 2 0 (1 ∷ 0 ∷ 0 ∷ []) ∷ [])
    ∷ run full_target (Activate 0 ∷ Activate 0 ∷ [])
    (line granted 2 0 (1 ∷ 1 ∷ []) ∷ line granted 2 0 (2 ∷ 1 ∷ []) ∷ [])
    ∷ fires full_target (Activate 0 ∷ []) (activation 0) (activates ∷ declines ∷ [])
    -- two that suggest each other fill up, and the last token is declined
    ∷ run
    (record {
      caps = 2 ∷ 2 ∷ [];
      rels = relation suggests 0 1 ∷ relation suggests 1 0 ∷ [];
    })
    (Activate 1 ∷ []) (line granted 5 0 (2 ∷ 2 ∷ []) ∷ [])
    -- 15: what an implication asked for is declined, so the source of the implication is forced off again; nothing of it is kept, it
    -- opens nothing and counts as refused
    ∷ run declined_implication declined_and_undone
    (line granted 2 0 (0 ∷ 0 ∷ 1 ∷ [])
    ∷ line 15 3 1 (0 ∷ 0 ∷ 1 ∷ [])
    ∷ line granted 0 0 (0 ∷ 0 ∷ 0 ∷ [])
    ∷ line granted 2 0 (1 ∷ 1 ∷ 0 ∷ [])
    ∷ [])
    ∷ fires declined_implication (Activate 2 ∷ []) (activation 0) (activates ∷ declines ∷ forces ∷ [])
    ∷ totals declined_implication declined_and_undone 2 1 1
    ∷ leaves_history declined_implication declined_and_undone (0 ∷ [])
    -- what such a request brought along goes with it: 3, which 0 suggests, was on when the step ended
    ∷ run
    (record {
      caps = 1 ∷ 1 ∷ 1 ∷ 1 ∷ [];
      rels = relation implies 0 1 ∷ relation excludes 1 2 ∷ relation suggests 2 1 ∷ relation suggests 0 3 ∷ [];
    })
    (Activate 2 ∷ Activate 0 ∷ [])
    (line granted 2 0 (0 ∷ 0 ∷ 1 ∷ 0 ∷ []) ∷ line 15 4 1 (0 ∷ 0 ∷ 1 ∷ 0 ∷ []) ∷ [])
    -- the request's own token can be declined too, with the count where it was
    ∷ run declined_implication (Activate 2 ∷ Activate 1 ∷ []) (line granted 2 0 (0 ∷ 0 ∷ 1 ∷ []) ∷ line 15 1 0 (0 ∷ 0 ∷ 1 ∷ []) ∷ [])
    ∷ run full_target (Activate 1 ∷ Activate 1 ∷ [])
    (line granted 1 0 (0 ∷ 1 ∷ []) ∷ line 15 1 0 (0 ∷ 1 ∷ []) ∷ [])
    -- Where act of the requested context fired, its count can still end where it was, or lower.
    ∷ run
    (record {
      caps = 2 ∷ 1 ∷ 1 ∷ [];
      rels =
          relation suggests 0 1 ∷ relation causes 1 0 ∷ relation implies 1 2 ∷ relation excludes 1 2
          ∷ relation suggests 2 0 ∷ relation suggests 1 2 ∷ [];
    })
    (Activate 2 ∷ Deactivate 2 ∷ Activate 0 ∷ [])
    (line granted 3 0 (1 ∷ 0 ∷ 1 ∷ [])
    ∷ line granted 1 0 (1 ∷ 0 ∷ 0 ∷ [])
    ∷ line 15 6 1 (1 ∷ 0 ∷ 0 ∷ [])
    ∷ [])
    ∷ run
    (record {
      caps = 3 ∷ 1 ∷ 1 ∷ 1 ∷ [];
      rels =
          relation suggests 0 1 ∷ relation causes 1 0 ∷ relation causes 1 3 ∷ relation causes 3 0 ∷ relation implies 1 2
          ∷ relation excludes 1 2 ∷ relation suggests 2 0 ∷ relation suggests 1 2 ∷ [];
    })
    (Activate 2 ∷ Activate 0 ∷ Deactivate 2 ∷ Activate 0 ∷ [])
    (line granted 3 0 (1 ∷ 0 ∷ 1 ∷ 0 ∷ [])
    ∷ line granted 2 0 (2 ∷ 0 ∷ 1 ∷ 0 ∷ [])
    ∷ line granted 1 0 (2 ∷ 0 ∷ 0 ∷ 0 ∷ [])
    ∷ line 15 10 1 (2 ∷ 0 ∷ 0 ∷ 0 ∷ [])
    ∷ [])
    ∷ run
    (record {
      caps = 2 ∷ 1 ∷ 1 ∷ 1 ∷ [];
      rels =
          relation requires 0 1 ∷ relation suggests 0 2 ∷ relation causes 2 1 ∷ relation implies 2 3
          ∷ relation excludes 2 3 ∷ relation suggests 3 1 ∷ relation suggests 2 3 ∷ [];
    })
    (Activate 3 ∷ Activate 0 ∷ Deactivate 3 ∷ Activate 0 ∷ [])
    (line granted 2 0 (0 ∷ 1 ∷ 0 ∷ 1 ∷ [])
    ∷ line granted 2 0 (1 ∷ 1 ∷ 0 ∷ 1 ∷ [])
    ∷ line granted 1 0 (1 ∷ 1 ∷ 0 ∷ 0 ∷ [])
    ∷ line 15 8 3 (1 ∷ 1 ∷ 0 ∷ 0 ∷ [])
    ∷ [])
    -- 12 goes before 15: 0 is forced off as above, and what else it implied is left asked on and off
    ∷ run
    (record {
      caps = 1 ∷ 1 ∷ 1 ∷ 1 ∷ [];
      rels = relation implies 0 1 ∷ relation implies 0 3 ∷ relation excludes 1 2 ∷ relation excludes 3 2 ∷ relation suggests 2 1 ∷ [];
    })
    (Activate 2 ∷ Activate 0 ∷ [])
    (line granted 2 0 (0 ∷ 0 ∷ 1 ∷ 0 ∷ []) ∷ line 12 3 1 (0 ∷ 0 ∷ 1 ∷ 0 ∷ []) ∷ [])
    -- a deactivation ends with its context lower, and never meets 15
    ∷ verdicts declined_implication (Activate 2 ∷ Deactivate 2 ∷ Activate 0 ∷ Deactivate 1 ∷ []) (granted ∷ granted ∷ granted ∷ granted ∷ [])
    -- a suggestion and an implication between the same two contexts, in both orders: the arcs are one, the transitions two
    ∷ rows_either (1 ∷ 1 ∷ []) (relation suggests 0 1) (relation implies 0 1)
    ((2 ∷ 0 ∷ 1 ∷ 0 ∷ 1 ∷ 2 ∷ 0 ∷ 0 ∷ 0 ∷ [])
    ∷ (2 ∷ 1 ∷ 0 ∷ 1 ∷ 0 ∷ 0 ∷ 2 ∷ 0 ∷ 0 ∷ [])
    ∷ (2 ∷ 0 ∷ 2 ∷ 0 ∷ 2 ∷ 0 ∷ 0 ∷ 0 ∷ 0 ∷ [])
    ∷ (2 ∷ 2 ∷ 0 ∷ 2 ∷ 0 ∷ 0 ∷ 0 ∷ 0 ∷ 0 ∷ [])
    ∷ [])
    (1 ∷ 0 ∷ 2 ∷ 0 ∷ 0 ∷ 0 ∷ 0 ∷ 0 ∷ 0 ∷ []) (2 ∷ 1 ∷ 0 ∷ 0 ∷ 0 ∷ 0 ∷ 0 ∷ 2 ∷ 2 ∷ [])
    ∷ run_either (1 ∷ 1 ∷ 1 ∷ []) (relation suggests 0 1) (relation implies 0 1) (relation excludes 1 2 ∷ [])
    (Activate 0 ∷ Deactivate 0 ∷ Activate 2 ∷ Activate 0 ∷ [])
    (line granted 2 0 (1 ∷ 1 ∷ 0 ∷ [])
    ∷ line granted 2 0 (0 ∷ 0 ∷ 0 ∷ [])
    ∷ line granted 1 0 (0 ∷ 0 ∷ 1 ∷ [])
    ∷ line 15 3 1 (0 ∷ 0 ∷ 1 ∷ [])
    ∷ [])
    -- of two tokens each is declined by itself, though two suggestions have the same target
    ∷ run
    suggested_twice
    (Activate 0 ∷ [])
    (line granted 4 0 (1 ∷ 1 ∷ 0 ∷ [])
    ∷ [])
    ∷ sizes
    suggested_twice
    9 453 441 464
    -- what is asked off does not keep a decline back
    ∷ run
    (record {
      caps = 1 ∷ 1 ∷ 1 ∷ 1 ∷ [];
      rels =
          relation implies 0 1 ∷ relation implies 0 3 ∷ relation excludes 1 2 ∷ relation excludes 3 2
          ∷ relation suggests 2 1 ∷ relation suggests 2 3 ∷ [];
    })
    (Activate 2 ∷ Activate 0 ∷ [])
    (line granted 3 0 (0 ∷ 0 ∷ 1 ∷ 0 ∷ [])
    ∷ line 12 4 1 (0 ∷ 0 ∷ 1 ∷ 0 ∷ [])
    ∷ [])
    -- what is suggested suggests in its turn; what is only required does not suggest
    ∷ run (record { caps = 1 ∷ 1 ∷ 1 ∷ []; rels = relation suggests 0 1 ∷ relation suggests 1 2 ∷ [] }) (Activate 0 ∷ [])
    (line granted 3 0 (1 ∷ 1 ∷ 1 ∷ [])
    ∷ [])
    ∷ run (record { caps = 1 ∷ 1 ∷ 2 ∷ []; rels = relation requires 0 1 ∷ relation suggests 1 2 ∷ [] }) (Activate 1 ∷ Activate 0 ∷ [])
    (line granted 2 0 (0 ∷ 1 ∷ 1 ∷ [])
    ∷ line granted 1 0 (1 ∷ 1 ∷ 1 ∷ [])
    ∷ [])
    -- a suggestion beside each other kind, between the same ends and the opposite ones, in either order
    ∷ rows
    (record {
      caps = 1 ∷ 1 ∷ 1 ∷ [];
      rels =
          relation suggests 0 1 ∷ relation causes 0 1 ∷ relation implies 0 2 ∷ relation requires 1 2
          ∷ relation causes 2 1 ∷ relation suggests 1 2 ∷ [];
    })
    ((2 ∷ 0 ∷ 1 ∷ 0 ∷ 1 ∷ 6 ∷ 0 ∷ 0 ∷ 0 ∷ [])
    ∷ (2 ∷ 1 ∷ 0 ∷ 1 ∷ 0 ∷ 0 ∷ 6 ∷ 0 ∷ 0 ∷ [])
    ∷ (2 ∷ 4 ∷ 2 ∷ 0 ∷ 6 ∷ 4 ∷ 0 ∷ 0 ∷ 0 ∷ [])
    ∷ (2 ∷ 2 ∷ 0 ∷ 2 ∷ 0 ∷ 0 ∷ 0 ∷ 0 ∷ 0 ∷ [])
    ∷ (2 ∷ 0 ∷ 4 ∷ 0 ∷ 4 ∷ 2 ∷ 0 ∷ 0 ∷ 0 ∷ [])
    ∷ (2 ∷ 4 ∷ 0 ∷ 4 ∷ 0 ∷ 0 ∷ 2 ∷ 0 ∷ 0 ∷ [])
    ∷ (1 ∷ 0 ∷ 2 ∷ 0 ∷ 0 ∷ 0 ∷ 0 ∷ 0 ∷ 0 ∷ [])
    ∷ (1 ∷ 0 ∷ 0 ∷ 2 ∷ 0 ∷ 0 ∷ 0 ∷ 2 ∷ 0 ∷ [])
    ∷ (2 ∷ 1 ∷ 0 ∷ 0 ∷ 0 ∷ 0 ∷ 2 ∷ 4 ∷ 4 ∷ [])
    ∷ (2 ∷ 2 ∷ 0 ∷ 0 ∷ 0 ∷ 0 ∷ 0 ∷ 4 ∷ 0 ∷ [])
    ∷ (1 ∷ 0 ∷ 0 ∷ 2 ∷ 0 ∷ 0 ∷ 0 ∷ 2 ∷ 0 ∷ [])
    ∷ (1 ∷ 0 ∷ 4 ∷ 0 ∷ 0 ∷ 0 ∷ 0 ∷ 0 ∷ 0 ∷ [])
    ∷ [])
    ∷ run
    (record {
      caps = 1 ∷ 1 ∷ 1 ∷ [];
      rels = relation requires 0 2 ∷ relation suggests 0 1 ∷ relation causes 0 1 ∷ [];
    })
    (Activate 2 ∷ Activate 0 ∷ Deactivate 2 ∷ [])
    (line granted 1 0 (0 ∷ 0 ∷ 1 ∷ [])
    ∷ line granted 2 0 (1 ∷ 1 ∷ 1 ∷ [])
    ∷ line granted 3 1 (0 ∷ 0 ∷ 0 ∷ [])
    ∷ [])
    ∷ run_either (1 ∷ 2 ∷ []) (relation suggests 0 1) (relation requires 0 1) []
    (Activate 0 ∷ Activate 1 ∷ Activate 0 ∷ Deactivate 1 ∷ Deactivate 1 ∷ [])
    (line 12 0 0 (0 ∷ 0 ∷ [])
    ∷ line granted 1 0 (0 ∷ 1 ∷ [])
    ∷ line granted 2 0 (1 ∷ 2 ∷ [])
    ∷ line granted 1 0 (1 ∷ 1 ∷ [])
    ∷ line granted 2 1 (0 ∷ 0 ∷ [])
    ∷ [])
    ∷ run_either (1 ∷ 1 ∷ []) (relation suggests 0 1) (relation requires 1 0) [] (Activate 1 ∷ Activate 0 ∷ Deactivate 0 ∷ [])
    (line 15 1 0 (0 ∷ 0 ∷ []) ∷ line granted 2 0 (1 ∷ 1 ∷ []) ∷ line granted 2 1 (0 ∷ 0 ∷ []) ∷ [])
    ∷ run_either (3 ∷ 1 ∷ []) (relation suggests 0 1) (relation implies 1 0) [] (Activate 0 ∷ Deactivate 0 ∷ Deactivate 0 ∷ [])
    (line granted 4 0 (2 ∷ 1 ∷ []) ∷ line granted 1 0 (1 ∷ 1 ∷ []) ∷ line granted 2 1 (0 ∷ 0 ∷ []) ∷ [])
    ∷ run_either (1 ∷ 1 ∷ []) (relation suggests 0 1) (relation excludes 0 1) [] (Activate 0 ∷ Deactivate 0 ∷ Activate 1 ∷ Activate 0 ∷ [])
    (line granted 2 0 (1 ∷ 0 ∷ [])
    ∷ line granted 1 0 (0 ∷ 0 ∷ [])
    ∷ line granted 1 0 (0 ∷ 1 ∷ [])
    ∷ line 12 0 0 (0 ∷ 1 ∷ [])
    ∷ [])
    ∷ run_either (1 ∷ 1 ∷ 1 ∷ []) (relation suggests 0 1) (relation causes 0 1) (relation excludes 1 2 ∷ [])
    (Activate 0 ∷ Deactivate 1 ∷ Deactivate 0 ∷ Activate 2 ∷ Activate 0 ∷ [])
    (line granted 2 0 (1 ∷ 1 ∷ 0 ∷ [])
    ∷ line granted 1 0 (1 ∷ 0 ∷ 0 ∷ [])
    ∷ line granted 2 0 (0 ∷ 0 ∷ 0 ∷ [])
    ∷ line granted 1 0 (0 ∷ 0 ∷ 1 ∷ [])
    ∷ line granted 2 0 (1 ∷ 0 ∷ 1 ∷ [])
    ∷ [])
    ∷ fires (record { caps = 1 ∷ 1 ∷ []; rels = relation causes 0 1 ∷ relation suggests 0 1 ∷ [] }) (Activate 0 ∷ Deactivate 1 ∷ []) (deactivation 0)
    (deactivates ∷ drops ∷ [])
    -- The lower priority: 1 is forced off before its suggestion of 4 is declined, so that 4, which 1 excludes, comes on.
    ∷ run
    (record {
      caps = 1 ∷ 1 ∷ 1 ∷ 1 ∷ 1 ∷ [];
      rels =
          relation causes 0 1 ∷ relation suggests 3 2 ∷ relation suggests 1 4 ∷ relation implies 1 2 ∷ relation excludes 1 4
          ∷ relation excludes 2 3 ∷ [];
    })
    (Activate 3 ∷ Activate 0 ∷ [])
    (line granted 2 0 (0 ∷ 0 ∷ 0 ∷ 1 ∷ 0 ∷ []) ∷ line granted 5 1 (1 ∷ 0 ∷ 0 ∷ 1 ∷ 1 ∷ []) ∷ [])
    -- of two declines the one with the lower number: with that of 4 first, the activation of 0 switches 4 off
    ∷ run (declined_order 4 2) (Activate 4 ∷ Activate 3 ∷ Activate 0 ∷ [])
    (line granted 1 0 (0 ∷ 0 ∷ 0 ∷ 0 ∷ 1 ∷ [])
    ∷ line granted 3 0 (0 ∷ 0 ∷ 0 ∷ 1 ∷ 1 ∷ [])
    ∷ line granted 6 1 (1 ∷ 0 ∷ 0 ∷ 1 ∷ 0 ∷ [])
    ∷ [])
    ∷ run (declined_order 2 4) (Activate 4 ∷ Activate 3 ∷ Activate 0 ∷ [])
    (line granted 1 0 (0 ∷ 0 ∷ 0 ∷ 0 ∷ 1 ∷ [])
    ∷ line granted 3 0 (0 ∷ 0 ∷ 0 ∷ 1 ∷ 1 ∷ [])
    ∷ line granted 6 1 (1 ∷ 0 ∷ 0 ∷ 1 ∷ 1 ∷ [])
    ∷ [])
    -- A suggestion in an image: its sizes; its ends are tested as those of any relation; the other direction, another source and another kind
    -- are other relations; stated twice it is refused, and so is a kind of 255.
    ∷ sizes suggestion 5 248 245 258
    ∷ composes (3 ∷ 3 ∷ []) (5 ∷ 0 ∷ 1 ∷ 5 ∷ 1 ∷ 0 ∷ []) 310 granted
    ∷ composes (3 ∷ 3 ∷ []) (5 ∷ 0 ∷ 1 ∷ 3 ∷ 0 ∷ 1 ∷ 5 ∷ 0 ∷ 1 ∷ []) 999 7
    ∷ composes (3 ∷ 3 ∷ []) (255 ∷ 0 ∷ 1 ∷ []) 999 6
    ∷ composes (3 ∷ 3 ∷ []) (5 ∷ 1 ∷ 1 ∷ []) 0 6
    ∷ composes (3 ∷ 3 ∷ []) (5 ∷ 0 ∷ 2 ∷ []) 0 6
    ∷ composes (3 ∷ 3 ∷ []) (5 ∷ 2 ∷ 0 ∷ []) 0 6
    ∷ composes (3 ∷ 3 ∷ 3 ∷ []) (5 ∷ 0 ∷ 1 ∷ 5 ∷ 2 ∷ 1 ∷ 5 ∷ 0 ∷ 2 ∷ []) 461 granted
    ∷ composes (3 ∷ 3 ∷ []) all_kinds 625 granted
    ∷ composes (3 ∷ 3 ∷ []) all_kinds 624 8
    -- loading one: whole, with a decline of priority 2, and with the records of another kind
    ∷ loads (image edition_1 declined_implication) granted
    ∷ loads (set (image edition_1 suggestion) 201 2) 9
    ∷ loads (set pair_image 2 suggests) 9
    ∷ []

-- tests of equality
abbrev same_verdict : Verdict → ℕ → Bool
same_verdict v k = eqb (verdict_number v) k

-- a number for each role, and for each request
abbrev role_number : Role → ℕ
role_number activates = 0
role_number deactivates = 1
role_number forces = 2
role_number drops = 3
role_number declines = 4

abbrev request_number : Request → ℕ
request_number r = 2 * r.context + bit (not r.on)

abbrev same_lines : ℕ → List Event → List Line → Bool
same_lines n [] [] = true
same_lines n [] (l ∷ ls) = false
same_lines n (e ∷ es) [] = false
same_lines n (e ∷ es) (l ∷ ls) =
    same_verdict e.answer.verdict l.verdict
    && eqb e.answer.firings l.firings
    && eqb e.answer.forced l.forced
    && equal_lists (map e.counts (range 0 n)) l.counts
    && same_lines n es ls

abbrev same_verdicts : List Event → List ℕ → Bool
same_verdicts [] [] = true
same_verdicts [] (v ∷ vs) = false
same_verdicts (e ∷ es) [] = false
same_verdicts (e ∷ es) (v ∷ vs) = same_verdict e.answer.verdict v && same_verdicts es vs

-- a row's record: the priority, and for each set its first byte and five that are 0
abbrev whole_record : List ℕ → List ℕ
whole_record [] = []
whole_record (p ∷ firsts) = p ∷ concat_map (λ b. b ∷ replicate 5 0) firsts

-- the definitions give what the case says
unfoldable pub holds : Case → Bool
holds (run net calls lines) = same_lines (size net) (log (fresh net) calls) lines
holds (run_either caps r s more calls lines) =
    let ordered : Relation → Relation → Bool =
    λ p q. same_lines (length caps) (log (fresh (record { caps = caps; rels = p ∷ q ∷ more })) calls) lines in
    ordered r s && ordered s r
holds (verdicts net calls vs) = same_verdicts (log (fresh net) calls) vs
holds (totals net calls granted refused undone) =
    let t = (after (fresh net) calls).tally in
    eqb t.granted granted && eqb t.refused refused && eqb t.undone undone
holds (leaves_history net calls rs) = equal_lists (map request_number (history (log (fresh net) calls))) rs
holds (fires net calls r roles) =
    equal_lists (map (λ (t : Transition). role_number t.role) (step_of net (after (fresh net) calls).board.counts r).fired)
    (map role_number roles)
holds (sizes net t to_relations to_records k) =
    let img = image edition_1 net in
    eqb (transition_count net) t
    && eqb (trailer_of edition_1 img).to_relations to_relations
    && eqb (trailer_of edition_1 img).to_records to_records
    && eqb (length img) k
holds (rows net rs) = equal_lists (records edition_1 net) (concat_map whole_record rs)
holds (rows_either caps r s rs x y) =
    let ordered : Relation → Relation → List ℕ → List ℕ → Bool =
    λ p q v w.
    equal_lists (records edition_1 (record { caps = caps; rels = p ∷ q ∷ [] })) (concat_map whole_record (rs ++ (v ∷ w ∷ []))) in
    ordered r s x y && ordered s r y x
holds (in_bytes w cs bs) = equal_lists (set_bytes w (λ c. any (eqb c) cs)) bs
holds (ends net from bs) = equal_lists (drop from (image edition_1 net)) bs
holds (reads n c count v x) =
    let r = reading n c count in
    same_verdict r.verdict v && eqb r.value x
holds (loads img v) = same_verdict (load edition_1 img).verdict v
holds (composes caps rels room v) = same_verdict (compose edition_1 caps rels (replicate room 0)).verdict v
holds (leaves_output caps rels out from bs) = equal_lists (drop from (compose edition_1 caps rels out).output) bs

-- All of them hold. A changed definition is refused here first.
pub cases_hold : T (all holds cases)
unfolding number all_below same has_zero misfit repeats_after matches related excluded asks_on asks_off act deac forced drop_of decline_of extra context_transitions extra_transitions transitions_of below_capacity ready_at ready enabled next fire stopped after_firing fire_until_quiet clear initial_marking concluded effect commit make_request undo_from settle reply tally_after respond reading board_at after log standing extend_by history set_bytes record_bytes relation_bytes trailer_bytes trailer records image bad_sizes compose trailer_of bad_layout net_of records_of other_records load six_conditions pair_image cases holds
cases_hold = tt
