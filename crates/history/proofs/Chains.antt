-- What holds of every chain of calls: what a call's contract says, call after call, is the machine; what holds of the machine is the model's
-- theorem.
-- Assumes nothing.
use Rattle.std.proofs.Common.{◌≡◌, ℕ, List, ◌∷◌, map, refl, sym, subst, ap, ap₂, ◌∙◌}
use Rattle.model.specs.Machine.{Event, State, fresh, after, log, respond}
use Rattle.model.specs.Image.{edition_1}
use Rattle.model.specs.Claims.{Rules}
use Rattle.model.specs.declared.Call.{Call}
use Rattle.model.specs.declared.Answer.{Answer}
use Rattle.model.proofs.Editions.{every_list_loaded}
use Rattle.engine.specs.View.{Shows, counts_of}
use Rattle.engine.specs.declared.engine.Engine.{Engine}
use Rattle.history.specs.Chains.{Chain, none_left, then, loaded, Kept}

-- the answers and the state of a chain from an engine that holds the machine's state s
record Follows (s : State) (cs : List Call) (answers : List Answer) (last : Engine) : Type 0 where
  answers_are : answers ≡ map (λ (e : Event). e.answer) (log s cs)
  state_is : Shows last (after s cs)

follows : {e last : Engine} {cs : List Call} {answers : List Answer} (s : State) → Shows e s → Chain e cs answers last → Follows s cs answers last
unfolding log after
follows s h none_left = record { answers_are = refl; state_is = h }
follows {e} s h (then {next = next} {c = c} {answers = answers} r rest) =
    let σ = s.board.settled in
    let shown : Shows next (respond s c).state =
    subst (λ (t : State). Shows next (respond t c).state) h (r.shows σ) in
    let i = follows (respond s c).state shown rest in
    record {
      answers_are = ap₂ (λ (a : Answer) (l : List Answer). a ∷ l) (r.answers σ ∙ ap (λ (t : State). (respond t c).answer) h) i.answers_are;
      state_is = i.state_is;
    }

pub kept : (img : List ℕ) {first last : Engine} {cs : List Call} {answers : List Answer}
    → Shows first (fresh (loaded img)) → Chain first cs answers last → Kept img cs answers last
kept img {last = last} {cs = cs} h chain =
    let f = follows (fresh (loaded img)) h chain in
    let d = every_list_loaded edition_1 img cs in
    let c : counts_of last ≡ (after (fresh (loaded img)) cs).board.counts = ap (λ (s : State). s.board.counts) f.state_is in
    record {
      answers_are = f.answers_are;
      state_is = f.state_is;
      counts_are = c;
      totals_are = ap (λ (s : State). s.tally) f.state_is;
      replayed = d.replayed ∙ sym c;
      rules = subst (Rules (loaded img)) (sym c) d.rules;
      machine = d;
    }
