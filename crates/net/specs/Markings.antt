-- How the engine's sets and arrays are read as a marking of the model.
-- Assumes nothing.
use Rattle.std.specs.Prelude.{ℕ, ◌+◌, ◌≤◌, cond, ◌≡◌, List, ltb, get_or}
use Rattle.sets.specs.Sets.{upto}
use Rattle.model.specs.Sets.{number}
use Rattle.model.specs.Firing.{Marking, holds_token}
use Rattle.model.specs.Machine.{Counts}
use Rattle.net.specs.declared.marked.Marked.{Marked}

-- the count of context c is entry c
abbrev pub counts_in : List ℕ → Counts
counts_in counts c = get_or counts c 0

-- the marking in two arrays: the count of c in the first, Pr(c) at c and Pr(¬c) at 48 + c in the second
abbrev pub marking : List ℕ → List ℕ → Marking
marking counts temps =
    record {
      count = counts_in counts;
      pr = λ c. cond (ltb c 48) (get_or temps c 0) 0;
      pr_not = λ c. get_or temps (48 + c) 0;
    }

-- the sets of a marking of n contexts: the places of each kind that hold a token
pub record Shows (n : ℕ) (m : Marking) (s : Marked) : Type 0 where
  pub context : s.context ≡ number 64 (upto n (holds_token m.count))
  pub pr : s.pr ≡ number 64 (upto n (holds_token m.pr))
  pub pr_not : s.pr_not ≡ number 64 (upto n (holds_token m.pr_not))

-- no temporary place holds more than k tokens
pub record AtMost (k : ℕ) (m : Marking) : Type 0 where
  pub pr : (c : ℕ) → m.pr c ≤ k
  pub pr_not : (c : ℕ) → m.pr_not c ≤ k
