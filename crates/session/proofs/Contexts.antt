-- Laws of the active contexts' text, context by context. (PrintedWorked is named so that a changed definition is refused
-- at the examples first.)
-- Assumes nothing.
use Prim.Native.Nat.{ℕ, zero, suc, ◌+◌, ◌<◌}
use native.Mathlib.Nat.{add-zero}
use native.Mathlib.Omega.{arith}
use mathlib.Core.Path.{◌≡◌, refl, sym, ap, ap₂, ◌∙◌}
use mathlib.Core.List.{List, [], ◌∷◌, ◌++◌, append_assoc, append-nil}
use Rattle.model.specs.Sets.{range, concat_map}
use Rattle.model.specs.Machine.{Counts}
use Rattle.session.specs.Decimals.{decimal}
use Rattle.session.specs.Answers.{space, colon, context_text, contexts_text}
use Rattle.session.proofs.PrintedWorked

pub idle_text : (c count : ℕ) → count ≡ 0 → context_text c count ≡ []
unfolding context_text
idle_text c count e = ap (context_text c) e

pub active_text : (c count : ℕ) → (count ≡ 0 → ⊥) → context_text c count ≡ space ∷ decimal c ++ (colon ∷ decimal count)
unfolding context_text
active_text c zero p = absurd (p refl)
active_text c (suc k) p = refl

range_more : (i n : ℕ) → range i (suc n) ≡ range i n ++ ((i + n) ∷ [])
range_more i zero = ap (λ (k : ℕ). k ∷ []) (sym (add-zero i))
range_more i (suc n) =
    let e : suc i + n ≡ i + suc n = omega arith in
    ap (λ (l : List ℕ). i ∷ l) (range_more (suc i) n ∙ ap (λ (k : ℕ). range (suc i) n ++ (k ∷ [])) e)

concat_map_append : (f : ℕ → List ℕ) (xs ys : List ℕ) → concat_map f (xs ++ ys) ≡ concat_map f xs ++ concat_map f ys
concat_map_append f [] ys = refl
concat_map_append f (x ∷ xs) ys = ap (λ (l : List ℕ). f x ++ l) (concat_map_append f xs ys) ∙ sym (append_assoc (f x) (concat_map f xs) (concat_map f ys))

module _ (counts : Counts) where
  abbrev text_at : ℕ → List ℕ
  text_at c = context_text c (counts c)

  pub no_contexts : contexts_text 0 counts ≡ []
  unfolding contexts_text
  no_contexts = refl

  -- one context more
  pub contexts_more : (n : ℕ) → contexts_text (n + 1) counts ≡ contexts_text n counts ++ context_text n (counts n)
  unfolding contexts_text
  contexts_more n =
      let s : n + 1 ≡ suc n = omega arith in
      let z : 0 + n ≡ n = omega arith in
      ap (λ (k : ℕ). concat_map text_at (range 0 k)) s
      ∙ ap (concat_map text_at) (range_more 0 n)
      ∙ concat_map_append text_at (range 0 n) ((0 + n) ∷ [])
      ∙ ap (λ (l : List ℕ). concat_map text_at (range 0 n) ++ l) (append-nil (text_at (0 + n)) ∙ ap text_at z)

-- only the counts of the contexts below n stand in the text
pub contexts_same : (f g : Counts) (n : ℕ) → ((c : ℕ) → c < n → f c ≡ g c) → contexts_text n f ≡ contexts_text n g
contexts_same f g zero h = no_contexts f ∙ sym (no_contexts g)
contexts_same f g (suc n) h =
    let s : suc n ≡ n + 1 = omega arith in
    ap (λ (j : ℕ). contexts_text j f) s
    ∙ contexts_more f n
    ∙ ap₂ (λ (l m : List ℕ). l ++ m) (contexts_same f g n (λ c k. h c (omega arith))) (ap (context_text n) (h n (omega arith)))
    ∙ sym (contexts_more g n)
    ∙ sym (ap (λ (j : ℕ). contexts_text j g) s)
