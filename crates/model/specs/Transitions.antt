-- docs/MACHINE.md, "Transitions": the five forms, their arcs and priorities, and their numbers.
-- In the field's terms a transition takes from its input places, gives to its output places and is stopped by its inhibitor places.
-- Every arc has weight 1, and since a set is a test, an arc that two relations ask for is one arc.
-- Assumes nothing.
use Rattle.std.specs.Prelude.{ℕ, Bool, true, false, ◌&&◌, ◌||◌, not, cond, List, [], ◌∷◌, ◌++◌, eqb}
use Rattle.model.specs.Sets.{Set, empty_set, singleton, concat_map, range}
use Rattle.model.specs.Relations.{Net, size, related, excluded, causes, implies, requires, suggests}
use Rattle.model.specs.declared.Relation.{Relation}

-- which of the five forms a transition has
pub data Role : Type 0 where
  activates : Role
  deactivates : Role
  forces : Role
  drops : Role
  declines : Role

-- A transition, by the contexts of its places: a set each for context places, for the places Pr and for the places Pr¬ (here Not).
-- No form has a place Pr¬ among its inhibitors.
pub record Transition : Type 0 where
  pub role : Role
  pub priority : ℕ
  pub takes_context : Set
  pub takes_pr : Set
  pub takes_not : Set
  pub gives_context : Set
  pub gives_pr : Set
  pub gives_not : Set
  pub inhib_context : Set
  pub inhib_pr : Set

-- the role of a forced transition
abbrev pub forces_off : Role → Bool
forces_off activates = false
forces_off deactivates = false
forces_off forces = true
forces_off drops = false
forces_off declines = false

-- whether a transition has it: a step counts the firings of these
abbrev pub is_forced : Transition → Bool
is_forced t = forces_off t.role

-- what act(a) asks on: whatever a causes, implies or suggests
unfoldable pub asks_on : List Relation → ℕ → Set
asks_on rels a b = related rels causes a b || related rels implies a b || related rels suggests a b

-- what deac(a), or forcing a off, asks off: whatever a causes or implies. What a suggests stays as it is.
unfoldable pub asks_off : List Relation → ℕ → Set
asks_off rels a b = related rels causes a b || related rels implies a b

-- act(c) turns a token of Pr(c) into one of c. It needs what c requires, which it takes and gives back; it asks on what c causes,
-- implies or suggests; a context excluded with c stops it.
unfoldable pub act : List Relation → ℕ → Transition
act rels c =
    record {
      role = activates;
      priority = 2;
      takes_context = related rels requires c;
      takes_pr = singleton c;
      takes_not = empty_set;
      gives_context = λ x. singleton c x || related rels requires c x;
      gives_pr = asks_on rels c;
      gives_not = empty_set;
      inhib_context = excluded rels c;
      inhib_pr = empty_set;
    }

-- deac(c) removes a token of c together with one of Pr¬(c), and asks off what c causes or implies.
unfoldable pub deac : List Relation → ℕ → Transition
deac rels c =
    record {
      role = deactivates;
      priority = 2;
      takes_context = singleton c;
      takes_pr = empty_set;
      takes_not = singleton c;
      gives_context = empty_set;
      gives_pr = empty_set;
      gives_not = asks_off rels c;
      inhib_context = empty_set;
      inhib_pr = empty_set;
    }

-- The forced form of "a implies b" and of "a requires b": it removes a token of a where b holds none, and asks off as deac(a) does, but
-- never a context that inhibits it. `inhibitors` is the set of b alone in both; the implication is also stopped by Pr(b), so the two
-- differ in `pr`, the contexts whose Pr inhibits.
unfoldable pub forced : List Relation → ℕ → (inhibitors pr : Set) → Transition
forced rels a inhibitors pr =
    record {
      role = forces;
      priority = 2;
      takes_context = singleton a;
      takes_pr = empty_set;
      takes_not = empty_set;
      gives_context = empty_set;
      gives_pr = empty_set;
      gives_not = λ d. asks_off rels a d && not (inhibitors d);
      inhib_context = inhibitors;
      inhib_pr = pr;
    }

-- The drop of "a causes b" swallows a token of Pr¬(b) where b holds none. Its priority is the lower one.
unfoldable pub drop_of : ℕ → Transition
drop_of b =
    record {
      role = drops;
      priority = 1;
      takes_context = empty_set;
      takes_pr = empty_set;
      takes_not = singleton b;
      gives_context = empty_set;
      gives_pr = empty_set;
      gives_not = empty_set;
      inhib_context = singleton b;
      inhib_pr = empty_set;
    }

-- The decline of "a suggests b" swallows a token of Pr(b), whichever relation or request it came from. Nothing
-- inhibits it, but its priority is the lower one: it fires only where nothing of the higher one can.
unfoldable pub decline_of : ℕ → Transition
decline_of b =
    record {
      role = declines;
      priority = 1;
      takes_context = empty_set;
      takes_pr = singleton b;
      takes_not = empty_set;
      gives_context = empty_set;
      gives_pr = empty_set;
      gives_not = empty_set;
      inhib_context = empty_set;
      inhib_pr = empty_set;
    }

-- the extra transition of a relation; an exclusion has none
unfoldable pub extra : List Relation → Relation → List Transition
extra rels r =
    cond (eqb r.kind causes) (drop_of r.b ∷ [])
    (cond (eqb r.kind implies) (forced rels r.a (singleton r.b) (singleton r.b) ∷ [])
    (cond (eqb r.kind requires) (forced rels r.a (singleton r.b) empty_set ∷ [])
    (cond (eqb r.kind suggests) (decline_of r.b ∷ [])
    [])))

-- act(c) and deac(c), which have the numbers 2c and 2c + 1
unfoldable pub context_transitions : List Relation → ℕ → List Transition
context_transitions rels c = act rels c ∷ deac rels c ∷ []

-- The extra transitions in the order of their relations. Each gets its arcs from all of `rels`, from the relations behind its own too.
unfoldable pub extra_transitions : List Relation → List Transition
extra_transitions rels = concat_map (extra rels) rels

-- every transition of n contexts and these relations; a transition's number is its place in this list
unfoldable pub transitions_of : ℕ → List Relation → List Transition
transitions_of n rels = concat_map (context_transitions rels) (range 0 n) ++ extra_transitions rels

-- the same of a net
abbrev pub transitions : Net → List Transition
transitions net = transitions_of (size net) net.rels
