-- docs/MACHINE.md, "Firing": when a transition may fire, which one does, and what follows.
-- Ready is what a net without priorities calls enabled; enabled here also says that no transition of a higher priority is ready.
-- Assumes nothing.
use Rattle.std.specs.Prelude.{ℕ, zero, suc, ◌+◌, ◌-◌, Bool, true, false, ◌&&◌, not, List, [], ◌∷◌, eqb, ltb}
use Rattle.std.proofs.Math.Option.{Option, none, some}
use Rattle.model.specs.Sets.{Set, ◌⇒◌, bit, all_below, any, count_passing}
use Rattle.model.specs.Relations.{Net, size, capacity}
use Rattle.model.specs.Transitions.{Transition, is_forced, transitions}

-- how many tokens each context place, each Pr(c) and each Pr¬(c) holds
pub record Marking : Type 0 where
  pub count : ℕ → ℕ
  pub pr : ℕ → ℕ
  pub pr_not : ℕ → ℕ

-- the places of one kind that hold a token, and those that hold none
abbrev pub holds_token : (ℕ → ℕ) → Set
holds_token f c = ltb 0 (f c)

abbrev pub is_empty : (ℕ → ℕ) → Set
is_empty f c = eqb (f c) 0

-- the contexts that have room for one token more
unfoldable pub below_capacity : Net → Marking → Set
below_capacity net m c = ltb (m.count c) (capacity net c)

-- What readiness asks at context c: a token on each of its places that is taken from, none on each that inhibits, and room where the
-- context gets a token that the transition does not also take. `spare` is the set of contexts with room; temporary places have no limit.
unfoldable pub ready_at : Set → Marking → Transition → Set
ready_at spare m t c =
    (t.takes_context c ⇒ holds_token m.count c)
    && (t.takes_pr c ⇒ holds_token m.pr c)
    && (t.takes_not c ⇒ holds_token m.pr_not c)
    && (t.inhib_context c ⇒ is_empty m.count c)
    && (t.inhib_pr c ⇒ is_empty m.pr c)
    && ((t.gives_context c && not (t.takes_context c)) ⇒ spare c)

-- ready: all of that at every context of n
unfoldable pub ready : ℕ → Set → Marking → Transition → Bool
ready n spare m t = all_below n (ready_at spare m t)

-- enabled: ready, with nothing ready above it
unfoldable pub enabled : ℕ → Set → Marking → List Transition → Transition → Bool
enabled n spare m ts t = ready n spare m t && not (any (λ u. ltb t.priority u.priority && ready n spare m u) ts)

module _ {ℓ} {A : Type ℓ} where
  -- the first of the list that passes the test
  abbrev pub first : (A → Bool) → List A → Option A
  first f [] = none
  first f (x ∷ xs) = elim (f x) [ true ↦ some x | false ↦ first f xs ]

-- The transition of the list that fires next: the enabled one with the lowest number, if there is one.
unfoldable pub next : ℕ → Set → Marking → List Transition → Option Transition
next n spare m ts = first (enabled n spare m ts) ts

-- ready, enabled and next in a net
abbrev pub ready_of : Net → Marking → Transition → Bool
ready_of net m t = ready (size net) (below_capacity net m) m t

abbrev pub enabled_of : Net → Marking → Transition → Bool
enabled_of net m t = enabled (size net) (below_capacity net m) m (transitions net) t

abbrev pub next_of : Net → Marking → Option Transition
next_of net m = next (size net) (below_capacity net m) m (transitions net)

-- the tokens of a place of one kind after a firing with these sets, each arc moving one token
abbrev pub tokens_after : Set → Set → (ℕ → ℕ) → ℕ → ℕ
tokens_after takes gives f c = f c - bit (takes c) + bit (gives c)

-- a firing takes and gives on all three kinds of places at once
unfoldable pub fire : Transition → Marking → Marking
fire t m =
    record {
      count = tokens_after t.takes_context t.gives_context m.count;
      pr = tokens_after t.takes_pr t.gives_pr m.pr;
      pr_not = tokens_after t.takes_not t.gives_not m.pr_not;
    }

-- How a step ends: whether nothing is enabled any more, the transitions that fired, in order, and the marking. The number of firings is
-- the length of that list.
pub record Outcome : Type 0 where
  pub quiet : Bool
  pub fired : List Transition
  pub marking : Marking

-- how many of these firings are of forced transitions
abbrev pub forced_count : List Transition → ℕ
forced_count = count_passing is_forced

-- whether nothing was found
abbrev pub is_none : Option Transition → Bool
is_none none = true
is_none (some t) = false

-- the step that ends here
unfoldable pub stopped : Net → Marking → Outcome
stopped net m = record { quiet = is_none (next_of net m); fired = []; marking = m }

-- the step that begins with t and then goes as o says
unfoldable pub after_firing : Transition → Outcome → Outcome
after_firing t o = record { quiet = o.quiet; fired = t ∷ o.fired; marking = o.marking }

-- The step from a marking that may still fire so often: it stops where nothing is enabled, or where it may fire no more.
unfoldable pub fire_until_quiet : Net → ℕ → Marking → Outcome
fire_until_quiet net zero m = stopped net m
fire_until_quiet net (suc left) m =
    elim (next_of net m) [
      | none ↦ stopped net m
      | some t ↦ after_firing t (fire_until_quiet net left (fire t m))
    ]

-- how many firings a step may make
abbrev pub step_limit : ℕ
step_limit = 4096

-- no temporary place of the net holds a token
unfoldable pub clear : Net → Marking → Bool
clear net m = all_below (size net) (λ c. is_empty m.pr c && is_empty m.pr_not c)
