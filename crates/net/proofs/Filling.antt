-- A table is filled from the words of transitions that are still to come.
-- Assumes nothing.
use Rattle.std.proofs.Common.{◌≡◌, ◌<◌, ◌≤◌, List, [], ◌∷◌, ◌++◌, length, get_or, drop, map, refl, sym, ap, subst, ◌∙◌, append_assoc, append-nil, length-append, arith}
use Rattle.std.proofs.lemmas.List.{length-map}
use Rattle.model.specs.Sets.{Each, cons}
use Rattle.model.specs.Transitions.{Transition}
use Rattle.model.proofs.Walks.{TwoPriorities}
use Rattle.transitions.specs.Arcs.{arcs_of}
use Rattle.transitions.proofs.Words.{holds}
use Rattle.net.specs.Tables.{Stores, Joins}
use Rattle.transitions.specs.declared.Arcs.{Arcs}
use Rattle.net.specs.declared.table.Table.{Table}

-- the table stores the first of these transitions, and those left are the others
pub record Filling (table : Table) (left : List Arcs) (ts : List Transition) : Type 0 where
  pub done : List Transition
  pub others : List Transition
  pub all : done ++ others ≡ ts
  pub stores : Stores table done
  pub words : left ≡ map arcs_of others
  pub priorities : Each TwoPriorities others

module _ {table : Table} {left : List Arcs} {ts : List Transition} where
  pub filling_start : Stores table [] → left ≡ map arcs_of ts → Each TwoPriorities ts → Filling table left ts
  filling_start s e two = record { done = []; others = ts; all = refl; stores = s; words = e; priorities = two }

  -- there is room for the next
  pub filling_room : (f : Filling table left ts) → length ts ≤ 192 → {a : Arcs} {more : List Arcs} → left ≡ a ∷ more → table.count < 192
  filling_room f few {a} {more} e =
      omega (arith, few, f.stores.count, length-append f.done f.others, ap length f.all, length-map f.others arcs_of, ap length f.words, ap length e)

  pub filling_next : (f : Filling table left ts) → {a : Arcs} {more : List Arcs} → left ≡ a ∷ more → {new : Table} → Joins table a new → Filling new more ts
  filling_next f {a} {more} e {new} j = go f.others f.priorities refl
    where
      go : (us : List Transition) → Each TwoPriorities us → f.others ≡ us → Filling new more ts
      go [] two q = absurd (let z : a ∷ more ≡ [] = sym e ∙ f.words ∙ ap (map arcs_of) q in omega (arith, ap length z))
      go (u ∷ us) (cons here there) q =
          let z : a ∷ more ≡ arcs_of u ∷ map arcs_of us = sym e ∙ f.words ∙ ap (map arcs_of) q in
          record {
            done = f.done ++ u ∷ [];
            others = us;
            all = append_assoc f.done (u ∷ []) us ∙ ap (λ (l : List Transition). f.done ++ l) (sym q) ∙ f.all;
            stores = j f.done u f.stores (holds a u here (ap (λ (l : List Arcs). get_or l 0 a) z));
            words = ap (drop 1) z;
            priorities = there;
          }

  pub filling_end : Filling table left ts → left ≡ [] → Stores table ts
  filling_end f e = go f.others refl
    where
      go : (us : List Transition) → f.others ≡ us → Stores table ts
      go [] q = subst (Stores table) (sym (append-nil f.done) ∙ ap (λ (l : List Transition). f.done ++ l) (sym q) ∙ f.all) f.stores
      go (u ∷ us) q = absurd (let z : [] ≡ arcs_of u ∷ map arcs_of us = sym e ∙ f.words ∙ ap (map arcs_of) q in omega (arith, ap length z))
