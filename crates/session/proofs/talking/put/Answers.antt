use Rattle.std.proofs.Common.{rules, ◌≡◌, ◌≤◌, ℕ, List, length, take, drop, ◌+◌, ◌-◌, ◌++◌, arith, subst, sym, ap, ◌∙◌, take-add}
use Rattle.std.proofs.lemmas.List.{take_rest}
use Rattle.std.specs.Io.KnownBytes.{Appends}
use Rattle.std.proofs.KnownBytes.{Appends-trans}
use Rattle.std.proofs.KnownBytes.{Appends-kept}
use Rattle.session.proofs.talking.put.Goals as goal
use Rattle.session.proofs.talking.put.Goals.{in-Ok, in-Err+else-ne}

joined : (text : List ℕ) (from n : ℕ) → take from text ++ take n (take (length text - from) (drop from text)) ≡ take (from + n) text
joined text from n = ap (λ l. take from text ++ take n l) (take_rest text from) ∙ sym (take-add from n text)

pub loop-preserved : goal.loop-preserved
loop-preserved g c = elim c.match-write.branch [
  | in-Ok w ↦
      let text = c.args.text.now in
      let within : c.match-write.at ≤ length text = search rules in
      record {
        within = within;
        front = subst (Appends _ _) (joined text c.loop.at w.in-Ok.n ∙ ap (λ i. take i text) (sym w.at-is)) (Appends-trans _ _ _ _ _ c.loop.invariant.front w.in-Ok.ensures.bytes);
      }
  | in-Err+else-ne w ↦
      record {
        within = omega arith;
        front = subst (Appends _ _) (ap (λ i. take i c.args.text.now) (sym w.at-is)) (Appends-kept _ _ _ _ c.loop.invariant.front w.in-Err.ensures.bytes);
      }
]
