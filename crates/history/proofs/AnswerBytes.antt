-- The answers to a list of calls as bytes: how many there are, and those of one call more.
-- Assumes nothing.
use Prim.Native.Nat.{ℕ, suc, ◌*◌, ◌/◌}
use mathlib.Core.Path.{◌≡◌, refl, ap, ◌∙◌}
use mathlib.Core.List.{List, [], ◌∷◌, ◌++◌, map}
use lib.ListN.{length, length-map}
use Rattle.std.proofs.lemmas.List.Concat.{flat_map-append}
use Rattle.model.specs.Sets.{concat_map}
use Rattle.model.specs.Relations.{Net, size}
use Rattle.model.specs.Machine.{Event, State, respond, fresh, board_at, after, log, event}
use Rattle.model.specs.declared.Answer.{Answer}
use Rattle.model.specs.declared.Call.{Call}
use Rattle.model.proofs.Replay.{after_net, log_snoc}
use Rattle.model.proofs.Sizes.{length_concat_map}
use Rattle.history.specs.Encoding.{calls_in, answer_bytes}
use Rattle.history.specs.Reports.{answers_from}
use Rattle.history.proofs.CallBytes.{calls_count}

-- how many bytes the answers take: five for each call
log_length : (s : State) (cs : List Call) → length (log s cs) ≡ length cs
unfolding log
log_length s [] = refl
log_length s (c ∷ cs) = ap suc (log_length (respond s c).state cs)

pub answers_long : (net : Net) (cs : List Call) → length (answers_from (fresh net) cs) ≡ 5 * length cs
answers_long net cs =
    length_concat_map answer_bytes 5 (λ _. refl) (map (λ (e : Event). e.answer) (log (fresh net) cs))
    ∙ ap (λ (x : ℕ). 5 * x) (length-map (log (fresh net) cs) _ ∙ log_length (fresh net) cs)

map_snoc : (es : List Event) (e : Event) → map (λ (x : Event). x.answer) (es ++ (e ∷ [])) ≡ map (λ (x : Event). x.answer) es ++ (e.answer ∷ [])
map_snoc [] e = refl
map_snoc (x ∷ es) e = ap (λ (l : List Answer). x.answer ∷ l) (map_snoc es e)

answers_snoc : (net : Net) (cs : List Call) (c : Call) → answers_from (fresh net) (cs ++ (c ∷ [])) ≡ answers_from (fresh net) cs ++ answer_bytes (respond (after (fresh net) cs) c).answer
answers_snoc net cs c =
    ap (λ (l : List Event). concat_map answer_bytes (map (λ (x : Event). x.answer) l)) (log_snoc (fresh net) cs c)
    ∙ ap (concat_map answer_bytes) (map_snoc (log (fresh net) cs) (event (after (fresh net) cs) c))
    ∙ flat_map-append answer_bytes (map (λ (x : Event). x.answer) (log (fresh net) cs)) ((respond (after (fresh net) cs) c).answer ∷ [])

module _ (net : Net) (bs : List ℕ) where
  state_size : size (after (fresh net) (calls_in bs)).board.net ≡ size net
  unfolding board_at
  state_size = ap size (after_net (fresh net) (calls_in bs))

  answers_size : length (answers_from (fresh net) (calls_in bs)) ≡ 5 * (length bs / 3)
  answers_size = answers_long net (calls_in bs) ∙ ap (λ (x : ℕ). 5 * x) (calls_count bs)
