-- The loop's invariant: the contexts below c stand in the text, in at most 7 bytes each.
use Rattle.std.specs.Prelude.{◌≡◌, ◌++◌, ◌+◌, ◌*◌, ◌≤◌, length, get_or}
use Rattle.session.specs.Answers.{contexts_text}
use Rattle.session.proofs.text.Text.push_contexts.Given as goal

abbrev pub invariant-loop-c : goal.invariant-loop-c
invariant-loop-c l = record {
  text : l.self ≡ l.fn.self ++ contexts_text l.c (λ k. get_or l.counts k 0);
  short : length l.self ≤ length l.fn.self + 7 * l.c;
}
