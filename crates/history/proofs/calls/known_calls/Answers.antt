use Rattle.std.proofs.Common.{◌≡◌, ◌%◌, ◌<◌, length, false, not, ap, rules, tests}
use Rattle.std.specs.List.{list_any}
use Rattle.std.proofs.lemmas.Iterator.{YieldsList-from_slice}
use Rattle.std.proofs.lemmas.Iterator.Search.{any_from_yields_List}
use Rattle.model.specs.Calls.{is_unknown}
use Rattle.history.specs.Encoding.{no_calls}
use Rattle.history.proofs.Calling.{found, whole, not_whole, no_call}
use Rattle.history.proofs.calls.known_calls.Goals as goal
use Rattle.history.proofs.calls.known_calls.Goals.{then-is_empty, else-is_empty}

pub returns : goal.returns
returns c =
    let bs = c.args.bytes.now in
    let calls = c.as_chunks.result.0 in
    let known : c.if-is_empty.known ≡ not (no_calls bs) =
    elim c.if-is_empty.branch [
      | then-is_empty w ↦
          let any : w.any.result ≡ list_any is_unknown calls.now =
          any_from_yields_List is_unknown _ _ w.any.result w.any.ensures.ran (YieldsList-from_slice calls.now cc) (λ x b q k. search (rules, tests, no_call)) in
          let none_left : length bs % 3 ≡ 0 = search (rules, tests) in
          let read = whole bs none_left in
          cc
      | else-is_empty w ↦
          let left : 0 < length bs % 3 = search (rules, tests) in
          let none : not (no_calls bs) ≡ false = ap not (not_whole bs left) in
          cc
    ] in
    let f = found bs calls c.if-is_empty.known c.then_some.result c.as_chunks.ensures.front known c.then_some.ensures in
    record { none = f.none; some = f.some; calls = f.calls; known = f.known }
