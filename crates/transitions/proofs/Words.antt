-- The sets of a transition, and the extra transition of each kind.
-- Assumes nothing.
use Rattle.std.proofs.Common.{◌≡◌, ◌∙◌, ◌||◌, ap, ℕ, zero, suc, ◌≤◌, List, [], ◌∷◌, refl, sym, arith}
use Rattle.std.proofs.Math.Bool.{or_comm}
use Rattle.sets.specs.Sets.{members, insert}
use Rattle.sets.proofs.Laws.{inserted, zero_holds}
use Rattle.model.proofs.Masks.{number_cong}
use Rattle.model.specs.Sets.{Set, number, singleton, empty_set}
use Rattle.model.specs.Relations.{causes, excludes, implies, requires, suggests}
use Rattle.model.specs.declared.Relation.{Relation}
use Rattle.model.specs.Transitions.{Transition, drop_of, decline_of, forced, extra}
use Rattle.transitions.specs.declared.Arcs.{Arcs}
use Rattle.transitions.specs.declared.priority.Priority.TheVariants.{Late}
use Rattle.model.proofs.Walks.{TwoPriorities}
use Rattle.transitions.specs.Arcs.{priority_number, priority_of, arcs_of, Holds}

-- no set has a member, and the priority is the late one
abbrev pub no_arcs : Arcs
no_arcs =
    record {
      priority = Late;
      takes_context = 0;
      takes_pr = 0;
      takes_not = 0;
      gives_context = 0;
      gives_pr = 0;
      gives_not = 0;
      inhib_context = 0;
      inhib_pr = 0;
    }

-- each set of it is the empty one
pub empty_in : (field : Arcs → ℕ) {a : Arcs} → field no_arcs ≡ 0 → a ≡ no_arcs → field a ≡ number 64 empty_set
empty_in field z e = ap field e ∙ z ∙ zero_holds 64

-- each number that the machine has as a priority is that of its priority
numbered : (p : ℕ) → 1 ≤ p → p ≤ 2 → priority_number (priority_of p) ≡ p
numbered zero h l = absurd (omega arith)
numbered (suc zero) h l = refl
numbered (suc (suc zero)) h l = refl
numbered (suc (suc (suc p))) h l = absurd (omega arith)

-- what a transition is in the code holds its priority and its sets
pub holds : (a : Arcs) (t : Transition) → TwoPriorities t → a ≡ arcs_of t → Holds a t
holds a t two e =
    record {
      priority = ap (λ (x : Arcs). priority_number x.priority) e ∙ numbered t.priority two.positive two.low;
      takes_context = λ i. (e i).takes_context;
      takes_pr = λ i. (e i).takes_pr;
      takes_not = λ i. (e i).takes_not;
      gives_context = λ i. (e i).gives_context;
      gives_pr = λ i. (e i).gives_pr;
      gives_not = λ i. (e i).gives_not;
      inhib_context = λ i. (e i).inhib_context;
      inhib_pr = λ i. (e i).inhib_pr;
    }

module _ (rels : List Relation) (r : Relation) where
  pub extra_excluded : excludes ≡ r.kind → extra rels r ≡ []
  unfolding extra
  extra_excluded e = rw (sym e)

  pub extra_drop : causes ≡ r.kind → extra rels r ≡ drop_of r.b ∷ []
  unfolding extra
  extra_drop e = rw (sym e)

  pub extra_implied : implies ≡ r.kind → extra rels r ≡ forced rels r.a (singleton r.b) (singleton r.b) ∷ []
  unfolding extra
  extra_implied e = rw (sym e)

  pub extra_required : requires ≡ r.kind → extra rels r ≡ forced rels r.a (singleton r.b) empty_set ∷ []
  unfolding extra
  extra_required e = rw (sym e)

  pub extra_declined : suggests ≡ r.kind → extra rels r ≡ decline_of r.b ∷ []
  unfolding extra
  extra_declined e = rw (sym e)

-- a context joins a set, as the other of two
pub given_too : {w : ℕ} (f : Set) → w ≡ number 64 f → (c : ℕ) {r : ℕ} → r ≡ number 64 (insert c (members w)) → r ≡ number 64 (λ j. singleton c j || f j)
given_too f e c q = inserted 64 f e c q ∙ number_cong 64 _ _ (λ j l. or_comm (f j) (singleton c j))
