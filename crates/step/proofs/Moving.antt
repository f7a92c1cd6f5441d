-- Tokens that move on the places of one kind, one context at a time.
-- Assumes nothing.
use Prim.Native.Nat.{ℕ, ◌+◌, ◌-◌, ◌≤◌, ◌<◌}
use mathlib.Core.Bool.{Bool, true, false, cond, ◌&&◌, ◌||◌, not, true≢false}
use mathlib.Core.Path.{◌≡◌, refl, sym, ap, ◌∙◌, fun_ext}
use native.Mathlib.Decide.{ℕ_discrete, dec_lt}
use native.Mathlib.Omega.{arith}
use borrow.Author.Tests.{ltb-true, lt-ltb, le-ltb, eq-eqb, ne_eqb}
use lib.Dec.{eqb, ltb}
use lib.ListN.{get_or}
use mathlib.Core.List.{List}
use mir.Val.{bool_byte}
use Rattle.std.proofs.Common.{Some}
use Rattle.std.proofs.Math.Bool.{and-true}
use Rattle.std.proofs.lemmas.Bool.{not-true}
use Rattle.sets.specs.Sets.{members, upto, differing}
use Rattle.sets.specs.Members.{GivesNext}
use Rattle.sets.proofs.Laws.{contained}
use Rattle.sets.proofs.Least.{left_members}
use Rattle.model.proofs.Tests.{and_left, and_right}
use Rattle.model.proofs.Masks.{bit_lt}
use Rattle.model.specs.Sets.{Set, bit, number}
use Rattle.model.specs.Firing.{Marking, tokens_after}
use Rattle.step.proofs.Gathering.{bit_of_byte}
use Rattle.step.specs.Places.{width, room_on, tokens_on, with_tokens, put, Movable}
use Rattle.step.specs.declared.places.PlaceKind.{PlaceKind}
use Rattle.step.specs.declared.places.PlaceKind.TheVariants.{Context, Pr, PrNot}

-- ---- the places of one kind in a marking

pub tokens_with : (k : PlaceKind) (f : ℕ → ℕ) (m : Marking) → tokens_on k (with_tokens k f m) ≡ f
tokens_with Context f m = refl
tokens_with Pr f m = refl
tokens_with PrNot f m = refl

with_again : (k : PlaceKind) (f g : ℕ → ℕ) (m : Marking) → with_tokens k f (with_tokens k g m) ≡ with_tokens k f m
with_again Context f g m = refl
with_again Pr f g m = refl
with_again PrNot f g m = refl

pub with_own : (k : PlaceKind) (m : Marking) → m ≡ with_tokens k (tokens_on k m) m
with_own Context m = refl
with_own Pr m = refl
with_own PrNot m = refl

-- the other places stay as they were
pub others_kept : (k : PlaceKind) (f g : ℕ → ℕ) (m₀ m m' : Marking) → m ≡ with_tokens k g m₀ → m' ≡ with_tokens k f m → m' ≡ with_tokens k (tokens_on k m') m₀
others_kept k f g m₀ m m' e e' =
    e' ∙ ap (with_tokens k f) e ∙ with_again k f g m₀ ∙ ap (λ (h : ℕ → ℕ). with_tokens k h m₀) (sym (ap (tokens_on k) e' ∙ tokens_with k f m))

-- what a place can hold its entry can tell, of two bytes at most
pub width_two : (k : PlaceKind) → width k ≤ 65535
width_two Context = omega arith
width_two Pr = omega arith
width_two PrNot = omega arith

pub room_width : (k : PlaceKind) (capacities : List ℕ) → ((c : ℕ) → get_or capacities c 0 ≤ 255) → (c : ℕ) → room_on k capacities c ≤ width k
room_width Context capacities h c = h c
room_width Pr capacities h c = omega arith
room_width PrNot capacities h c = omega arith

-- ---- one place

-- where it is both taken and given, or neither, it keeps its tokens
one_stays : (t g : Bool) (x : ℕ) → ((t && not g) || (g && not t)) ≡ false → (t ≡ true → 0 < x) → x ≡ x - bit t + bit g
one_stays true true x e h = let q = h refl in omega arith
one_stays true false x e h = absurd (true≢false e)
one_stays false true x e h = absurd (true≢false e)
one_stays false false x e h = omega arith

-- a test as a byte
bit_of : {b t : Bool} {x : ℕ} → x ≡ bool_byte b → b ≡ t → x ≡ bit t
bit_of {b} e q = e ∙ bit_of_byte b ∙ ap bit q

-- ---- all of them, one context after the other

-- where a firing has moved the tokens of the contexts that are not left
pub record Moved (n : ℕ) (takes gives : Set) (before now : ℕ → ℕ) (left : ℕ) : Type 0 where
  pub inside : (c : ℕ) → c < 64 → members left c ≡ true → (c < n) × (differing takes gives c ≡ true) × (now c ≡ before c)
  pub done : (c : ℕ) → (c < 64 → members left c ≡ false) → now c ≡ tokens_after (upto n takes) (upto n gives) before c

module _ {n : ℕ} {takes gives : Set} {room before : ℕ → ℕ} (can : Movable n takes gives room before) (few : n ≤ 48) where
  -- at first all are left whose tokens a firing changes: the others keep theirs
  pub moved_start : {moving left : ℕ} → moving ≡ number 64 (differing takes gives) → left ≡ number 64 (upto n (members moving)) → Moved n takes gives before before left
  moved_start {moving} {left} holds e =
      record {
        inside = λ c h t. let both = sym (here c h) ∙ t in (ltb-true c n (and_left (ltb c n) (differing takes gives c) both), and_right (ltb c n) (differing takes gives c) both, refl);
        done = λ c out. go c out (dec_lt c n);
      }
    where
      here : (c : ℕ) → c < 64 → members left c ≡ (ltb c n && differing takes gives c)
      here c h = contained 64 (upto n (members moving)) e c h ∙ ap (λ (b : Bool). ltb c n && b) (contained 64 (differing takes gives) holds c h)

      go : (c : ℕ) → (c < 64 → members left c ≡ false) → Dec (c < n) → before c ≡ before c - bit (ltb c n && takes c) + bit (ltb c n && gives c)
      go c out (yes h) =
          let l : c < 64 = omega arith in
          one_stays (takes c) (gives c) (before c) (ap (λ (b : Bool). b && differing takes gives c) (sym (lt-ltb c n h)) ∙ sym (here c l) ∙ out l) (can.token c h)
          ∙ sym (ap (λ (b : Bool). before c - bit (b && takes c) + bit (b && gives c)) (lt-ltb c n h))
      go c out (no h) =
          (let z : before c ≡ before c - 0 + 0 = omega arith in z)
          ∙ sym (ap (λ (b : Bool). before c - bit (b && takes c) + bit (b && gives c)) (le-ltb c n (omega arith)))

  module _ {now : ℕ → ℕ} {left : ℕ} (m : Moved n takes gives before now left) where
    -- the next can move
    module _ {c after : ℕ} (next : GivesNext left (Some c) after) where
      here : (c < n) × (differing takes gives c ≡ true) × (now c ≡ before c)
      here = m.inside c next.0 next.1.hit

      -- among as many contexts as there were
      pub next_inside : {k : ℕ} → k ≡ n → c < k
      next_inside same = omega (arith, same, here.0)

      -- its tokens, and the byte of the test whether it is taken
      module _ {x u : ℕ} {taken : Bool} (e : x ≡ now c) (is_byte : u ≡ bool_byte taken) (is_taken : taken ≡ takes c) where
        et : u ≡ bit (takes c)
        et = bit_of is_byte is_taken

        pub next_token : u ≤ x
        next_token = go (takes c) refl
          where
            go : (b : Bool) → takes c ≡ b → u ≤ x
            go true q = let z = can.token c here.0 q in omega (arith, et, ap bit q, e, here.2)
            go false q = omega (arith, et, ap bit q)

        -- and of the test whether it is given
        module _ {g : ℕ} {given : Bool} (is_byte' : g ≡ bool_byte given) (is_given : given ≡ gives c) where
          eg : g ≡ bit (gives c)
          eg = bit_of is_byte' is_given

          pub next_room : {most : ℕ} → x ≤ most → room c ≤ most → x - u + g ≤ most
          next_room {most} l r = go (takes c) (gives c) refl refl
            where
              go : (b d : Bool) → takes c ≡ b → gives c ≡ d → x - u + g ≤ most
              go true d q q' = let z = can.token c here.0 q in omega (arith, et, ap bit q, eg, bit_lt (gives c), e, here.2)
              go false true q q' = let z = can.space c here.0 q' q in omega (arith, et, ap bit q, eg, ap bit q', e, here.2)
              go false false q q' = omega (arith, et, eg, ap bit q')

          pub next_tokens : x - u + g ≡ now c - bit (takes c) + bit (gives c)
          next_tokens = λ i. e i - et i + eg i

      -- and moves
      pub moved_more : {x : ℕ} → x ≡ now c - bit (takes c) + bit (gives c) → Moved n takes gives before (put c x now) after
      moved_more {x} e =
          record {
            inside = λ j h t.
                let both = sym (left_members left c next.2 j h) ∙ t in
                let old = m.inside j h (and_left (members left j) (not (eqb j c)) both) in
                (old.0, old.1, ap (λ (b : Bool). cond b x (now j)) (not-true (eqb j c) (and_right (members left j) (not (eqb j c)) both)) ∙ old.2);
            done = λ j out. go j out (ℕ_discrete j c);
          }
        where
          at : x ≡ tokens_after (upto n takes) (upto n gives) before c
          at =
              e ∙ ap (λ (y : ℕ). y - bit (takes c) + bit (gives c)) here.2
              ∙ sym (ap (λ (b : Bool). before c - bit (b && takes c) + bit (b && gives c)) (lt-ltb c n here.0))

          go : (j : ℕ) → (j < 64 → members after j ≡ false) → Dec (j ≡ c) → cond (eqb j c) x (now j) ≡ tokens_after (upto n takes) (upto n gives) before j
          go j out (yes q) = ap (λ (b : Bool). cond b x (now j)) (eq-eqb j c q) ∙ at ∙ ap (tokens_after (upto n takes) (upto n gives) before) (sym q)
          go j out (no q) =
              ap (λ (b : Bool). cond b x (now j)) (ne_eqb j c q)
              ∙ m.done j (λ h. sym (and-true (members left j)) ∙ sym (ap (λ (b : Bool). members left j && not b) (ne_eqb j c q)) ∙ sym (left_members left c next.2 j h) ∙ out h)

    -- where none is left, all have moved
    pub all_moved : ((j : ℕ) → members left j ≡ false) → now ≡ tokens_after (upto n takes) (upto n gives) before
    all_moved none = fun_ext (λ j. m.done j (λ h. none j))
