use Prim.Native.Nat.{ℕ, ◌+◌, ◌-◌, ◌*◌, ◌/◌, ◌<◌, ◌≤◌}
use Rattle.std.proofs.Common.{rules, List, []}
use lib.ListN.{get_or, length}
use mathlib.Core.Path.{◌≡◌, sym, ap, ◌∙◌}
use native.Mathlib.Omega.{arith}
use Rattle.model.specs.Sets.{from, number}
use Rattle.model.proofs.Masks.{number_below}
use Rattle.step.specs.Flags.{flagged}
use Rattle.step.proofs.Gathering.{fours_flags, fours_number, gather_none, gather_more, gather_all, gather_low}
use Rattle.step.proofs.beginning.gathered.Goals as goal

abbrev top : ℕ → ℕ
top n = 8 * ((n + 7) / 8) / 4

inside : (n k : ℕ) (l : List ℕ) → n ≤ 48 → 0 < k → k ≤ top n → length l ≡ 48 → k - 1 < length l / 4
inside n k l few h below size = omega (arith, few, h, below, size)

pub four-requires : goal.four-requires
four-requires c =
    let it = c.loop-k.invariant in
    fours_flags c.args.flags.now c.as_chunks.ensures.front (c.loop-k.k - 1) (inside c.args.n c.loop-k.k c.args.flags.now it.few c.loop-k-test.true it.below (search rules)) (omega arith) it.flags

pub loop-k-init : goal.loop-k-init
loop-k-init c =
    let f = flagged c.args.flags.now in
    let n = c.args.n in
    let e = c.eights-k.ensures in
    record {
      few = c.requires.0;
      below = omega (arith, e);
      flags = c.requires.1;
      word = gather_none (top n) f ∙ ap (λ (x : ℕ). number (4 * (top n - x / 4)) (from (4 * (x / 4)) f)) (sym e);
    }

pub overflow_mul-word : goal.overflow_mul-word
overflow_mul-word c =
    let it = c.loop-k.invariant in
    let room : c.loop-k.word < 17592186044416 = gather_low (top c.args.n) (flagged c.args.flags.now) c.loop-k.k (omega arith) c.loop-k-test.true it.word in
    omega (arith, room)

pub overflow_add-word : goal.overflow_add-word
overflow_add-word c =
    let it = c.loop-k.invariant in
    let room : c.loop-k.word < 17592186044416 = gather_low (top c.args.n) (flagged c.args.flags.now) c.loop-k.k (omega arith) c.loop-k-test.true it.word in
    omega (arith, room, c.four.ensures, number_below 4 (flagged (get_or c.as_chunks.result.0.now (c.loop-k.k - 1) [])))

pub loop-k-preserved : goal.loop-k-preserved
loop-k-preserved c =
    let it = c.loop-k.invariant in
    let k = c.loop-k-test.true in
    record {
      few = it.few;
      below = omega arith;
      flags = it.flags;
      word = gather_more (top c.args.n) (flagged c.args.flags.now) c.loop-k.k (c.loop-k.k - 1) (omega arith) it.below it.word
          (c.four.ensures ∙ fours_number c.args.flags.now c.as_chunks.ensures.front (c.loop-k.k - 1) (inside c.args.n c.loop-k.k c.args.flags.now it.few k it.below (search rules))) (omega arith);
    }

pub returns : goal.returns
returns c =
    let it = c.loop-k.invariant in
    let n = c.args.n in
    let f = flagged c.args.flags.now in
    let e : c.loop-k.k ≡ 0 = omega (arith, c.loop-k-test.false) in
    gather_all (top n) f n (omega (arith, it.few)) (it.word ∙ ap (λ (k : ℕ). number (4 * (top n - k)) (from (4 * k) f)) e) (rw c.of_word.ensures at c.below.ensures)
