-- The transitions that the walk finds: of the contexts that can move, the first that is ready; of the others, the first of the higher priority.
-- Assumes nothing.
use Prim.Native.Nat.{ℕ, ◌+◌, ◌-◌, ◌*◌, ◌/◌, ◌≤◌, ◌<◌}
use mathlib.Core.Bool.{Bool, true, false, ◌&&◌, not}
use mathlib.Core.Path.{◌≡◌, sym, ap, ◌∙◌}
use mathlib.Core.Logic.{inl, inr}
use Rattle.std.proofs.Common.{Option, Some, None}
use Rattle.std.specs.Option.{option_or}
use Rattle.std.proofs.Math.Bool.{and-false, and-true}
use Rattle.std.proofs.lemmas.Bool.{cases_eq}
use native.Mathlib.Omega.{arith}
use borrow.Author.Tests.{ltb-true, lt-ltb, ne_eqb}
use lib.Dec.{eqb, ltb, leb}
use Rattle.sets.specs.Sets.{members, upto}
use Rattle.sets.specs.Members.{GivesNext}
use Rattle.sets.proofs.Laws.{contained}
use Rattle.sets.proofs.Least.{left_members}
use Rattle.model.specs.Sets.{number}
use Rattle.model.proofs.Tests.{and_both, and_left, and_right}
use Rattle.transitions.specs.Arcs.{priority_number}
use Rattle.transitions.specs.declared.Arcs.{Arcs}
use Rattle.transitions.specs.declared.priority.Priority.{Priority}
use Rattle.transitions.specs.declared.priority.Priority.TheVariants.{Late, Urgent}
use Rattle.net.specs.Tables.{row}
use Rattle.net.specs.Walks.{passes, ready_row, urgent_row, movable, own_at, Finds, Prefers, FindsOwn, PrefersUrgent, Passing}
use Rattle.net.specs.declared.marked.Marked.{Marked}
use Rattle.net.specs.declared.table.Table.{Table}

-- the contexts that are left of those that can move: no transition of the others can fire
pub record Left (n : ℕ) (table : Table) (s : Marked) (spare left : ℕ) : Type 0 where
  pub inside : (c : ℕ) → c < 64 → members left c ≡ true → (c < n) × (movable s spare c ≡ true)
  pub others : (j : ℕ) → j < 2 * n → members left (j / 2) ≡ false → own_at table s spare j ≡ false

module _ {n : ℕ} (few : n ≤ 48) (table : Table) (s : Marked) (spare : ℕ) where
  abbrev ready : ℕ → Bool
  ready = ready_row table s spare

  -- at first all are left
  pub left_start : {able left : ℕ} → able ≡ number 64 (movable s spare) → left ≡ number 64 (upto n (members able)) → Left n table s spare left
  left_start {able} {left} e f =
      record {
        inside = λ c h t.
            let both = sym (contained 64 (upto n (members able)) f c h) ∙ t in
            (ltb-true c n (and_left (ltb c n) (members able c) both), sym (contained 64 (movable s spare) e c h) ∙ and_right (ltb c n) (members able c) both);
        others = λ j h t.
            let c : j / 2 < n = omega arith in
            let low : j / 2 < 64 = omega (arith, few) in
            let able_is = contained 64 (movable s spare) e (j / 2) low in
            let left_is = contained 64 (upto n (members able)) f (j / 2) low in
            let none : movable s spare (j / 2) ≡ false = sym able_is ∙ sym (ap (λ (b : Bool). b && members able (j / 2)) (lt-ltb (j / 2) n c)) ∙ sym left_is ∙ t in
            ap (λ (b : Bool). b && ready j) none;
      }

  module _ {left : ℕ} (l : Left n table s spare left) where
    -- the transitions of a context that is left, where they are not ready
    unready : (j : ℕ) → ready j ≡ false → own_at table s spare j ≡ false
    unready j e = ap (λ (b : Bool). movable s spare (j / 2) && b) e ∙ and-false (movable s spare (j / 2))

    module _ {c after : ℕ} (next : GivesNext left (Some c) after) where
      -- one of the least context that is left, if those before it are not ready
      pub own_found : (i : ℕ) → i / 2 ≡ c → ready i ≡ true → ((j : ℕ) → j / 2 ≡ c → j < i → ready j ≡ false) → FindsOwn n table s spare (Some i)
      unfolding Finds
      own_found i q e before =
          let here = l.inside c next.0 next.1.hit in (
            omega arith,
            omega (arith, here.0),
            and_both (ap (movable s spare) q ∙ here.1) e,
            λ j b k.
                elim (cases_eq (j / 2) c) [
                  | inl same ↦ unready j (before j same k)
                  | inr other ↦ l.others j (omega (arith, here.0)) (next.1.gap (j / 2) (omega arith))
                ],
          )

      -- and the others are left, if neither of its two is ready
      pub left_more : ready (2 * c) ≡ false → ready (2 * c + 1) ≡ false → Left n table s spare after
      left_more act deac =
          record {
            inside = λ j h t. l.inside j h (and_left (members left j) (not (eqb j c)) (sym (left_members left c next.2 j h) ∙ t));
            others = λ j h t.
                elim (cases_eq (j / 2) c) [
                  | inl same ↦ unready j (at j same)
                  | inr other ↦ l.others j h (sym (and-true (members left (j / 2))) ∙ sym (ap (λ (b : Bool). members left (j / 2) && not b) (ne_eqb (j / 2) c other)) ∙ sym (left_members left c next.2 (j / 2) (omega (arith, few))) ∙ t)
                ];
          }
        where
          at : (j : ℕ) → j / 2 ≡ c → ready j ≡ false
          at j same =
              elim (cases_eq j (2 * c)) [
                | inl first ↦ ap ready first ∙ act
                | inr second ↦ (let q : j ≡ 2 * c + 1 = omega arith in ap ready q ∙ deac)
              ]

    -- where none is left none of their transitions can fire
    pub none_found : ((j : ℕ) → members left j ≡ false) → FindsOwn n table s spare None
    unfolding Finds
    none_found none j b h = l.others j h (none (j / 2))

-- of the others the first of priority 2, or else the first: one more step of a walk as far as i, where low is the first ready one
module _ (f : ℕ → Bool) (a i : ℕ) where
  pub finds_past : (low : Option ℕ) → Finds low a i f → f i ≡ false → Finds low a (i + 1) f
  unfolding Finds
  finds_past (Some k) h e = (h.0, omega (arith, h.1), h.2, h.3)
  finds_past None h e =
      λ j b l.
      elim (cases_eq j i) [
        | inl same ↦ ap f same ∙ e
        | inr other ↦ h j b (omega arith)
      ]

  pub finds_here : a ≤ i → (low : Option ℕ) → Finds low a i f → f i ≡ true → Finds (option_or low (Some i)) a (i + 1) f
  unfolding Finds
  finds_here b (Some k) h e = (h.0, omega (arith, h.1), h.2, h.3)
  finds_here b None h e = (b, omega arith, e, h)

  -- where the walk has come to e, or behind it since it began there
  pub finds_end : (e : ℕ) → e ≤ i → i ≤ a + (e - a) → (low : Option ℕ) → Finds low a i f → Finds low a e f
  unfolding Finds
  finds_end e b w (Some k) h = (h.0, omega (arith, h.0, h.1), h.2, h.3)
  finds_end e b w None h = λ j l k. h j l (omega arith)

-- and its ends
module _ (urgent ready : ℕ → Bool) (a e : ℕ) where
  pub prefers_urgent : (i : ℕ) → a ≤ i → i < e → urgent i ≡ true → Finds None a i urgent → Prefers (Some i) a e urgent ready
  unfolding Finds Prefers
  prefers_urgent i l h u none = inl (l, h, u, none)

  pub prefers_low : (low : Option ℕ) → Finds None a e urgent → Finds low a e ready → Prefers low a e urgent ready
  unfolding Prefers
  prefers_low (Some k) none first = inr (none, first)
  prefers_low None none first = first

-- what the sets and the priority of transition i say of it
module _ (table : Table) (s : Marked) (spare i : ℕ) {a : Arcs} (e : a ≡ row table i) where
  pub ready_told : {told : Bool} → told ≡ passes a s spare → ready_row table s spare i ≡ told
  unfolding ready_row
  ready_told f = sym (f ∙ ap (λ (x : Arcs). passes x s spare) e)

  pub is_high : ready_row table s spare i ≡ true → a.priority ≡ Urgent → urgent_row table s spare i ≡ true
  is_high r p = and_both r (ap (λ (x : Arcs). leb 2 (priority_number x.priority)) (sym e) ∙ ap (λ (x : Priority). leb 2 (priority_number x)) p)

  pub not_high : a.priority ≡ Late → urgent_row table s spare i ≡ false
  not_high p =
      ap (λ (x : Arcs). ready_row table s spare i && leb 2 (priority_number x.priority)) (sym e)
      ∙ ap (λ (x : Priority). ready_row table s spare i && leb 2 (priority_number x)) p ∙ and-false (ready_row table s spare i)

  pub not_ready : ready_row table s spare i ≡ false → urgent_row table s spare i ≡ false
  not_ready r = ap (λ (b : Bool). b && leb 2 (priority_number (row table i).priority)) r

-- what is found is ready
module _ {n : ℕ} (few : n ≤ 48) (table : Table) (s : Marked) (spare : ℕ) where
  pub own_passing : (i : ℕ) → FindsOwn n table s spare (Some i) → Passing (Some i) table s spare
  unfolding Finds Passing ready_row
  own_passing i f = (omega (arith, f.1, few), and_right (movable s spare (i / 2)) (passes (row table i) s spare) f.2)

  pub extra_passing : (r : Option ℕ) → PrefersUrgent n table s spare r → Passing r table s spare
  unfolding Finds Prefers Passing ready_row
  extra_passing (Some i) (inl f) =
      (omega (arith, f.1, table.few), and_left (passes (row table i) s spare) (leb 2 (priority_number (row table i).priority)) f.2)
  extra_passing (Some i) (inr (g, f)) = (omega (arith, f.1, table.few), f.2)
  extra_passing None f = tt
