-- Checks that run in order: a call is granted where all pass, and otherwise refused with the number of the first that is broken.
-- Assumes nothing.
use Prim.Native.Nat.{ℕ, zero, suc, ◌<◌}
use native.Mathlib.Omega.{arith}
use mathlib.Core.Path.{◌≡◌, refl, ap, ◌∙◌}
use mathlib.Core.Logic.{inl, inr, ⊎_elim}
use mathlib.Core.Bool.{Bool, true, false, ◌&&◌}
use mathlib.Core.List.Memᴰ
use mathlib.Core.List.{List, [], ◌∷◌, ◌++◌}
use lib.Dec.{ltb}
use lib.ListN.{length, get_or}
use borrow.Author.Tests.{ltb-true}
use Rattle.model.specs.Sets.{Each, nil, cons}
use Rattle.model.specs.Refusals.{Check, number_of, first_refusal, is_granted}
use Rattle.model.specs.Claims.{Passes, numbers, OneOf, FirstBroken, InOrder, no_check}
use Rattle.model.specs.declared.Refusal.{Refusal}
use Rattle.model.specs.declared.Verdict.{Verdict}
use Rattle.model.specs.declared.Verdict.TheVariants.{Granted, Refused}
use Rattle.model.proofs.Tests.{and_left, and_right, not_both}

abbrev by_test : Check → Verdict → Bool → Verdict
by_test c rest b = elim b as (λ _. Verdict) [ true ↦ Refused c.refusal | false ↦ rest ]

pub passes_granted : {cs : List Check} → Each Passes cs → first_refusal cs ≡ Granted
passes_granted nil = refl
passes_granted (cons {x = c} {xs = cs} p ps) = ap (by_test c (first_refusal cs)) p ∙ passes_granted ps

pub granted_passes : (cs : List Check) → first_refusal cs ≡ Granted → Each Passes cs
granted_passes [] e = nil
granted_passes (c ∷ cs) e = go c.broken refl e (granted_passes cs)
  where
    go : (b : Bool) → c.broken ≡ b → by_test c (first_refusal cs) b ≡ Granted → (first_refusal cs ≡ Granted → Each Passes cs) → Each Passes (c ∷ cs)
    go true p e k = absurd (cc)
    go false p e k = cons p (k e)

-- the order of the refusals: whatever stands behind a broken check, all before which pass, its number is met
pub first_refused : {before : List Check} → Each Passes before → (c : Check) → c.broken ≡ true → (behind : List Check)
    → first_refusal (before ++ (c ∷ behind)) ≡ Refused c.refusal
first_refused nil c p behind = ap (by_test c (first_refusal behind)) p
first_refused (cons {x = d} {xs = ds} q qs) c p behind = ap (by_test d (first_refusal (ds ++ (c ∷ behind)))) q ∙ first_refused qs c p behind

pub refused_first : (cs : List Check) (k : Refusal) → first_refusal cs ≡ Refused k → FirstBroken cs k
refused_first [] k e = absurd (cc)
refused_first (c ∷ cs) k e = go c.broken refl e (refused_first cs k)
  where
    go : (b : Bool) → c.broken ≡ b → by_test c (first_refusal cs) b ≡ Refused k → (first_refusal cs ≡ Refused k → FirstBroken cs k) → FirstBroken (c ∷ cs) k
    go true p e h = record { before = []; found = c; behind = cs; split = refl; passed = nil; broken = p; refusal = cc }
    go false p e h =
        let i = h e in
        record {
          before = c ∷ i.before;
          found = i.found;
          behind = i.behind;
          split = ap (λ (l : List Check). c ∷ l) i.split;
          passed = cons p i.passed;
          broken = i.broken;
          refusal = i.refusal;
        }

pub one_of : (cs : List Check) → OneOf (numbers cs) (first_refusal cs)
one_of [] = inl refl
one_of (c ∷ cs) = go c.broken (one_of cs)
  where
    go : (b : Bool) → OneOf (numbers cs) (first_refusal cs) → OneOf (numbers (c ∷ cs)) (by_test c (first_refusal cs) b)
    go true i = inr (c.refusal, Memᴰ.head refl, refl)
    go false i = ⊎_elim (λ e. inl e) (λ e. inr (e.0, Memᴰ.tail e.1, e.2)) i

pub granted_verdict : (v : Verdict) → is_granted v ≡ true → v ≡ Granted
granted_verdict Granted e = refl
granted_verdict (Refused k) e = absurd (cc)

-- the numbers rise: a test, so that a list of numbers passes it by computing
abbrev pub rising : List Check → Bool
rising [] = true
rising (c ∷ []) = true
rising (c ∷ d ∷ ds) = ltb (number_of c.refusal) (number_of d.refusal) && rising (d ∷ ds)

-- the first number is below each later one
first_lowest : (c : Check) (cs : List Check) → rising (c ∷ cs) ≡ true → (j : ℕ) → j < length cs → number_of c.refusal < number_of (get_or cs j no_check).refusal
first_lowest c [] up j h = absurd (omega arith)
first_lowest c (d ∷ ds) up zero h = ltb-true (number_of c.refusal) (number_of d.refusal) (and_left (ltb (number_of c.refusal) (number_of d.refusal)) (rising (d ∷ ds)) up)
first_lowest c (d ∷ ds) up (suc j) h =
    let l = ltb-true (number_of c.refusal) (number_of d.refusal) (and_left (ltb (number_of c.refusal) (number_of d.refusal)) (rising (d ∷ ds)) up) in
    let k = first_lowest d ds (and_right (ltb (number_of c.refusal) (number_of d.refusal)) (rising (d ∷ ds)) up) j (omega arith) in
    omega arith

rising_rest : (c : Check) (cs : List Check) → rising (c ∷ cs) ≡ true → rising cs ≡ true
rising_rest c [] up = refl
rising_rest c (d ∷ ds) up = and_right (ltb (number_of c.refusal) (number_of d.refusal)) (rising (d ∷ ds)) up

same_number : {j k : Refusal} → ◌≡◌ {A = Verdict} (Refused j) (Refused k) → number_of j ≡ number_of k
same_number {j} {k} e = let h : j ≡ k = cc in ap number_of h

pub in_order : (cs : List Check) → rising cs ≡ true → InOrder cs
in_order [] up i j l h b e = absurd (omega arith)
in_order (c ∷ cs) up i j l h b e = go c.broken refl i j l h b e (in_order cs (rising_rest c cs up))
  where
    go : (x : Bool) → c.broken ≡ x → (i j : ℕ) → i < j → j < length (c ∷ cs) → (get_or (c ∷ cs) i no_check).broken ≡ true
        → by_test c (first_refusal cs) x ≡ Refused (get_or (c ∷ cs) j no_check).refusal → InOrder cs → ⊥
    go x p i zero l h b e rest = absurd (omega arith)
    go true p i (suc j) l h b e rest =
        let k = first_lowest c cs up j (omega arith) in
        let s = same_number e in
        omega arith
    go false p zero (suc j) l h b e rest = not_both c.broken b p
    go false p (suc i) (suc j) l h b e rest = rest i j (omega arith) (omega arith) b e
