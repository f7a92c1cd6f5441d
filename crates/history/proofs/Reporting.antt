-- A list of calls, call by call: what is still to be written, behind what stands in the output, is the report of the whole list.
-- Assumes nothing.
use Rattle.std.proofs.Common.{◌≡◌, ℕ, suc, ◌+◌, ◌*◌, ◌<◌, ◌≤◌, List, [], ◌∷◌, ◌++◌, length, get_or, map, drop, refl, sym, subst, ap, ap₂, ◌∙◌, arith, append_assoc, zero-add, length-append, add-one, drop-cons}
use Rattle.std.proofs.lemmas.List.{length-map}
use Rattle.std.proofs.lemmas.List.Edits.{length-paste, paste-paste, paste_all}
use lib.Seq.{paste}
use Rattle.std.proofs.Math.ListN.{drop_of_length-le}
use Rattle.model.specs.Sets.{range}
use Rattle.model.specs.Relations.{size}
use Rattle.model.proofs.Replay.{reply_net}
use Rattle.model.proofs.Sizes.{length_range}
use Rattle.model.specs.Machine.{State, respond, after, log}
use Rattle.model.specs.declared.Answer.{Answer}
use Rattle.model.specs.declared.Call.{Call}
use Rattle.engine.specs.View.{Replies, Shows, state, listed_counts}
use Rattle.engine.specs.declared.engine.Engine.{Engine}
use Rattle.model.specs.Calls.{call_of_bytes}
use Rattle.history.specs.Encoding.{answer_bytes, tally_bytes}
use Rattle.history.specs.Reports.{answers_from, state_bytes, report_from}

report_step : (s : State) (c : Call) (cs : List Call) → report_from s (c ∷ cs) ≡ answer_bytes (respond s c).answer ++ report_from (respond s c).state cs
unfolding report_from log after
report_step s c cs = append_assoc (answer_bytes (respond s c).answer) (answers_from (respond s c).state cs) (state_bytes (after (respond s c).state cs))

report_end : (s : State) → report_from s [] ≡ state_bytes s
unfolding report_from log after
report_end s = refl

-- bytes in place of the output's own, from an offset on
abbrev pub put : List ℕ → ℕ → List ℕ → List ℕ
put out at bytes = paste out at bytes (length bytes)

-- t put behind s
put_put : (out : List ℕ) (at : ℕ) (s t : List ℕ) → at ≤ length out → put (put out at s) (at + length s) t ≡ put out at (s ++ t)
put_put out at s t h = paste-paste out at s t _ _ refl refl h ∙ ap (paste out at (s ++ t)) (sym (length-append s t))

-- where the calls before the i-th have led, from an engine with state s₀ and this output
pub record Going (calls : List (List ℕ)) (out₀ : List ℕ) (s₀ : State) (e : Engine) (out : List ℕ) (at i : ℕ) : Type 0 where
  pub machine : State
  pub shows : Shows e machine
  pub long : length out ≡ length out₀
  pub room : at + length (report_from machine (map call_of_bytes (drop i calls))) ≤ length out₀
  pub is : put out at (report_from machine (map call_of_bytes (drop i calls))) ≡ put out₀ 0 (report_from s₀ (map call_of_bytes calls))

module _ (calls : List (List ℕ)) (out₀ : List ℕ) where
  pub going_none : (e : Engine) (out : List ℕ) (at : ℕ) → length (report_from (state e []) (map call_of_bytes calls)) ≤ length out₀ → out ≡ out₀ → at ≡ 0
      → Going calls out₀ (state e []) e out at 0
  going_none e out at room same none =
      let s = state e [] in
      record {
        machine = s;
        shows = refl;
        long = ap length same;
        room = omega arith;
        is = ap₂ (λ (o : List ℕ) (k : ℕ). put o k (report_from s (map call_of_bytes calls))) same none;
      }

  module _ (s₀ : State) (e : Engine) (out : List ℕ) (at i : ℕ) (g : Going calls out₀ s₀ e out at i) where
    abbrev rest : List Call
    rest = map call_of_bytes (drop (suc i) calls)

    -- what is still to be reported, from the next call on
    next : (call : Call) → i < length calls → call ≡ call_of_bytes (get_or calls i [])
        → report_from g.machine (map call_of_bytes (drop i calls)) ≡ answer_bytes (respond g.machine call).answer ++ report_from (respond g.machine call).state rest
    next call inside same =
        ap (report_from g.machine) (ap (map call_of_bytes) (drop-cons calls i [] inside) ∙ ap (λ (c : Call). c ∷ rest) (sym same)) ∙ report_step g.machine call rest

    -- there is room for one answer more
    pub going_room : i < length calls → at + 5 ≤ length out
    going_room inside =
        let call = call_of_bytes (get_or calls i []) in
        let step = next call inside refl in
        omega (arith, g.room, g.long, ap length step, length-append (answer_bytes (respond g.machine call).answer) (report_from (respond g.machine call).state rest))

    -- one call more
    pub going_more : (e' : Engine) (out' : List ℕ) (at' : ℕ) (call : Call) (a : Answer) → i < length calls → call ≡ call_of_bytes (get_or calls i [])
        → Replies call e e' a → out' ≡ put out at (answer_bytes a) → at' ≡ at + 5 → Going calls out₀ s₀ e' out' at' (i + 1)
    going_more e' out' at' call a inside same r written on =
        let t = (respond g.machine call).state in
        let answered : a ≡ (respond g.machine call).answer =
        r.answers g.machine.board.settled ∙ ap (λ (x : State). (respond x call).answer) g.shows in
        let step : report_from g.machine (map call_of_bytes (drop i calls)) ≡ answer_bytes a ++ report_from t rest =
        next call inside same ∙ ap (λ (x : Answer). answer_bytes x ++ report_from t rest) (sym answered) in
        let more : map call_of_bytes (drop (i + 1) calls) ≡ rest = ap (λ (k : ℕ). map call_of_bytes (drop k calls)) (add-one i) in
        let fits = g.room in
        let whole = g.long in
        let many : length (report_from g.machine (map call_of_bytes (drop i calls))) ≡ 5 + length (report_from t rest) =
        ap length step ∙ length-append (answer_bytes a) (report_from t rest) in
        let size : length (report_from t (map call_of_bytes (drop (i + 1) calls))) ≡ length (report_from t rest) = ap (λ (cs : List Call). length (report_from t cs)) more in
        record {
          machine = t;
          shows = subst (λ (x : State). Shows e' (respond x call).state) g.shows (r.shows g.machine.board.settled);
          long = ap length written ∙ length-paste out at (answer_bytes a) 5 (omega arith) (omega arith) ∙ whole;
          room = omega arith;
          is =
              ap (λ (cs : List Call). put out' at' (report_from t cs)) more
              ∙ ap₂ (λ (o : List ℕ) (k : ℕ). put o k (report_from t rest)) written on
              ∙ put_put out at (answer_bytes a) (report_from t rest) (omega arith)
              ∙ ap (put out at) (sym step)
              ∙ g.is;
        }

    -- after the last call, the counts and the totals are left
    pub left : length calls ≤ i → report_from g.machine (map call_of_bytes (drop i calls)) ≡ state_bytes (state e [])
    left over =
        ap (λ (l : List (List ℕ)). report_from g.machine (map call_of_bytes l)) (drop_of_length-le calls {i = i} over) ∙ report_end g.machine ∙ sym (ap state_bytes g.shows)

    pub going_fits : length calls ≤ i → at + (length (listed_counts (state e [])) + 12) ≤ length out
    going_fits over =
        omega (arith, g.room, g.long, ap length (left over), length-append (listed_counts (state e [])) (tally_bytes e.tally))

    pub going_end : (out₁ out₂ : List ℕ) (at₁ : ℕ) → length calls ≤ i → out₁ ≡ put out at (listed_counts (state e []))
        → at₁ ≡ at + length (listed_counts (state e [])) → out₂ ≡ put out₁ at₁ (tally_bytes e.tally)
        → out₂ ≡ report_from s₀ (map call_of_bytes calls) ++ drop (length (report_from s₀ (map call_of_bytes calls))) out₀
    going_end out₁ out₂ at₁ over first on second =
        let r = report_from s₀ (map call_of_bytes calls) in
        second
        ∙ ap₂ (λ (o : List ℕ) (k : ℕ). put o k (tally_bytes e.tally)) first on
        ∙ put_put out at (listed_counts (state e [])) (tally_bytes e.tally) (omega (arith, going_fits over))
        ∙ ap (put out at) (sym (left over))
        ∙ g.is
        ∙ paste_all out₀ 0 r _ refl
        ∙ ap (λ (k : ℕ). r ++ drop k out₀) (zero-add (length r))

-- how long a report is: five bytes for each answer, one for each count, and twelve for the totals
pub report_length : (s : State) (cs : List Call) → length (report_from s cs) ≡ 5 * length cs + (size s.board.net + 12)
unfolding respond
report_length s [] =
    ap length (report_end s)
    ∙ length-append (listed_counts s) (tally_bytes s.tally)
    ∙ ap (λ (n : ℕ). n + 12) (length-map (range 0 (size s.board.net)) s.board.counts ∙ length_range 0 (size s.board.net))
    ∙ sym (zero-add (size s.board.net + 12))
report_length s (c ∷ cs) =
    let t = (respond s c).state in
    let i = report_length t cs in
    let kept : size t.board.net ≡ size s.board.net = ap size (reply_net s.board c) in
    ap length (report_step s c cs) ∙ length-append (answer_bytes (respond s c).answer) (report_from t cs) ∙ omega arith

-- how long the report of a list of calls in bytes is
pub report_size : (s : State) (calls : List (List ℕ)) → length (report_from s (map call_of_bytes calls)) ≡ 5 * length calls + (size s.board.net + 12)
report_size s calls = report_length s (map call_of_bytes calls) ∙ ap (λ (n : ℕ). 5 * n + (size s.board.net + 12)) (length-map calls call_of_bytes)
