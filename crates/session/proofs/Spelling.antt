-- Laws for the reading of a line: a number digit by digit, a sign in front of it, a letter alone.
-- Assumes nothing.
use Prim.Native.Nat.{ℕ, ◌+◌, ◌-◌, ◌*◌, ◌/◌, ◌%◌, ◌<◌, ◌≤◌}
use native.Mathlib.Omega.{arith}
use mathlib.Core.Path.{◌≡◌, refl, sym, ap, subst, ◌∙◌}
use mathlib.Core.Logic.{◌⊎◌, inl, inr, ⊎_elim}
use mathlib.Core.Bool.{true, false}
use mathlib.Core.List.{List, [], ◌∷◌, ◌++◌, append_assoc, append-nil}
use lib.Dec.{ltb}
use lib.ListN.{length, take, drop, get_or, length-append}
use lib.Seq.{take_all, take-suc, length-take-le}
use Rattle.std.proofs.Common.{take-append-drop}
use native.Mathlib.Numerals.{add-one}
use borrow.Author.Tests.{ltb-true, ltb-false}
use Rattle.model.specs.declared.Call.{Call}
use Rattle.model.specs.declared.Call.TheVariants.{Activate, Deactivate, Undo, Settle}
use Rattle.model.proofs.Tests.{decide}
use Rattle.session.specs.Decimals.{zero_sign, digit, decimal, Reads, Extends}
use Rattle.session.specs.Calls.{plus_sign, minus_sign, letter_u, letter_s, call_text, Askable, said}
use Rattle.std.specs.Prelude.{Option, Some, None}
use Rattle.session.proofs.Decimals.{decimal_small, decimal_several, decimal_same, decimal_more, decimal_split, decimal_not_empty, decimal_length}
use Rattle.session.proofs.Saying.{says_call, says_none}

-- the text is that of a number below 256, or of none
pub reads_number : (text : List ℕ) (r : ℕ) → r < 256 → text ≡ decimal r → Reads text (Some r)
reads_number text r h e =
    record {
      found = λ c p q. ap Some (decimal_same r c (sym e ∙ q));
      right = λ c q. let s : r ≡ c = cc in subst (λ (x : ℕ). (x < 256) × (text ≡ decimal x)) s (h, e);
    }

pub reads_none : (text : List ℕ) → ((c : ℕ) → c < 256 → text ≡ decimal c → ⊥) → Reads text None
reads_none text none = record { found = λ c p q. absurd (none c p q); right = λ c q. let z : ◌≡◌ {A = ℕ} 0 1 = cc in absurd (omega arith) }

-- a text that is no number's has no number's text in front of more bytes
pub none_below : (text : List ℕ) → Reads text None → (c : ℕ) → c < 256 → text ≡ decimal c → ⊥
none_below text t c h e = let q : ◌≡◌ {A = Option ℕ} None (Some c) = t.found c h e in let z : ◌≡◌ {A = ℕ} 0 1 = cc in omega arith

pub reads_none_more : (text more : List ℕ) → 0 < length text → Reads text None → Reads (text ++ more) None
reads_none_more text [] p t = subst (λ (l : List ℕ). Reads l None) (sym (append-nil text)) t
reads_none_more text (b ∷ bs) p t =
    subst (λ (l : List ℕ). Reads l None) (append_assoc text (b ∷ []) bs)
    (reads_none_more (text ++ (b ∷ [])) bs (omega (arith, length-append text (b ∷ [])))
    (reads_none (text ++ (b ∷ []))
    (λ w h e.
    let s = decimal_split w text b p e in
    none_below text t (w / 10) (omega arith) s.1)))

pub reads_nothing : (text : List ℕ) → length text ≡ 0 → Reads text None
reads_nothing text z = reads_none text (λ c h e. omega (arith, ap length e, decimal_not_empty c))

pub reads_none_behind : (b : ℕ) (bs : List ℕ) → Reads (b ∷ []) None → Reads (b ∷ bs) None
reads_none_behind b bs t = reads_none_more (b ∷ []) bs (omega arith) t

-- the bytes up to i are the text of n, and with the next byte that of none
reads_none_from : (n i b : ℕ) (text : List ℕ) → i < length text → decimal n ≡ take i text → b ≡ get_or text i 0 → Reads (decimal n ++ (b ∷ [])) None
    → Reads text None
reads_none_from n i b text h e q t =
    let front : decimal n ++ (b ∷ []) ≡ take (i + 1) text =
    ap (λ (l : List ℕ). l ++ (b ∷ [])) e
    ∙ ap (λ (x : ℕ). take i text ++ (x ∷ [])) q
    ∙ sym (take-suc text i 0 h)
    ∙ ap (λ (k : ℕ). take k text) (sym (add-one i)) in
    subst (λ (l : List ℕ). Reads l None) (take-append-drop (i + 1) text)
    (reads_none_more (take (i + 1) text) (drop (i + 1) text) (omega (arith, length-take-le (i + 1) text (omega arith)))
    (subst (λ (l : List ℕ). Reads l None) front t))

pub reads_none_at : (n i first : ℕ) (rest text : List ℕ) → text ≡ first ∷ rest → i < length rest → decimal n ≡ take (i + 1) text
    → Reads (decimal n ++ (get_or rest i 0 ∷ [])) None → Reads text None
reads_none_at n i first rest text e h d t =
    let next : get_or rest i 0 ≡ get_or text (i + 1) 0 =
    sym (ap (λ (l : List ℕ). get_or l (i + 1) 0) e ∙ ap (λ (k : ℕ). get_or (first ∷ rest) k 0) (add-one i)) in
    reads_none_from n (i + 1) (get_or rest i 0) text (omega (arith, ap length e)) d next t

-- all bytes are the text of n
pub reads_whole : (n i : ℕ) (text : List ℕ) → n < 256 → decimal n ≡ take i text → length text ≤ i → Reads text (Some n)
reads_whole n i text h e l = reads_number text n h (sym (e ∙ take_all i text l))

-- a text of one byte is a digit
one_digit : (b c : ℕ) → b ∷ [] ≡ decimal c → (c < 10) × (b ≡ digit c)
one_digit b c e = ⊎_elim small large (decide (ltb c 10))
  where
    small : ltb c 10 ≡ true → (c < 10) × (b ≡ digit c)
    small t = let p = e ∙ decimal_small c (ltb-true c 10 t) in (ltb-true c 10 t, cc)

    large : ltb c 10 ≡ false → (c < 10) × (b ≡ digit c)
    large t = absurd (omega (arith, ap length e, decimal_several c (ltb-false c 10 t)))

pub reads_digit : (b : ℕ) → 48 ≤ b → b ≤ 57 → Reads (b ∷ []) (Some (b - zero_sign))
reads_digit b d m =
    let e : b ≡ digit (b - zero_sign) = omega arith in
    reads_number (b ∷ []) (b - zero_sign) (omega arith) (ap (λ (x : ℕ). x ∷ []) e ∙ sym (decimal_small (b - zero_sign) (omega arith)))

pub reads_below : (b : ℕ) → b < 48 → Reads (b ∷ []) None
reads_below b h = reads_none (b ∷ []) (λ c p e. let q = one_digit b c e in omega arith)

pub reads_above : (b : ℕ) → 57 < b → Reads (b ∷ []) None
reads_above b h = reads_none (b ∷ []) (λ c p e. let q = one_digit b c e in omega arith)

module _ (c b : ℕ) where
  -- what a number's text that ends with b says of c and b
  abbrev Split : ℕ → Type 0
  Split w = (10 ≤ w) × (c ≡ w / 10) × (b ≡ digit (w % 10))

  split : (w : ℕ) → decimal c ++ (b ∷ []) ≡ decimal w → Split w
  split w e = let s = decimal_split w (decimal c) b (decimal_not_empty c) e in (s.0, decimal_same c (w / 10) s.1, s.2)

  extends_none : ((w : ℕ) → w < 256 → Split w → ⊥) → Extends c b None
  extends_none none = reads_none (decimal c ++ (b ∷ [])) (λ w h e. none w h (split w e))

  -- a zero in front
  pub extends_zero : c ≡ 0 → Extends c b None
  extends_zero z = extends_none (λ w h s. let (l, q, r) = s in omega arith)

  -- ten times c alone is above 255
  pub extends_ten : 256 ≤ c * 10 → Extends c b None
  extends_ten l = extends_none (λ w h s. let (k, q, r) = s in omega arith)

  -- the byte is no digit
  pub extends_other : Reads (b ∷ []) None → Extends c b None
  extends_other t =
      extends_none
      (λ w h s.
      let (k, q, r) = s in
      none_below (b ∷ []) t (w % 10) (omega arith) (ap (λ (z : ℕ). z ∷ []) r ∙ sym (decimal_small (w % 10) (omega arith))))

  module _ (d : ℕ) (e : Reads (b ∷ []) (Some d)) where
    is_digit : (d < 10) × (b ≡ digit d)
    is_digit = let (h, q) = e.right d refl in one_digit b d q

    pub extends_number : (c ≡ 0 → ⊥) → c * 10 + d < 256 → Extends c b (Some (c * 10 + d))
    extends_number nz h =
        let (k, q) = is_digit in
        let s : c * 10 + (b - zero_sign) ≡ c * 10 + d = omega arith in
        reads_number (decimal c ++ (b ∷ [])) (c * 10 + d) h
        (sym (decimal_more c b (omega arith) (omega arith)) ∙ ap decimal s)

    pub extends_large : 256 ≤ c * 10 + d → Extends c b None
    extends_large l = extends_none (λ w h s. let (k, q, r) = s in let (m, p) = is_digit in omega arith)

-- a line that begins with b says nothing where no call's text has that beginning and that rest
module _ (b : ℕ) (text : List ℕ) where
  says_other : ((c : ℕ) → c ≤ 255 → text ≡ decimal c → (b ≡ plus_sign) ⊎ (b ≡ minus_sign) → ⊥)
      → (text ≡ [] → (b ≡ letter_u) ⊎ (b ≡ letter_s) → ⊥) → said (b ∷ text) ≡ None
  unfolding call_text
  says_other no_number no_letter = says_none (b ∷ text) go
    where
      go : (k : Call) → Askable k → b ∷ text ≡ call_text k → ⊥
      go (Activate c) h e = no_number c h (cc) (inl (cc))
      go (Deactivate c) h e = no_number c h (cc) (inr (cc))
      go Undo h e = no_letter (cc) (inl (cc))
      go Settle h e = no_letter (cc) (inr (cc))

letter_said : (k : Call) (letter b : ℕ) → letter ∷ [] ≡ call_text k → Askable k → b ≡ letter → said (b ∷ []) ≡ Some k
letter_said k letter b t a e = says_call (b ∷ []) k (ap (λ (x : ℕ). x ∷ []) e ∙ t) a

pub said_u : (b : ℕ) → b ≡ 117 → said (b ∷ []) ≡ Some Undo
unfolding call_text
said_u b e = letter_said Undo letter_u b refl tt e

pub said_s : (b : ℕ) → b ≡ 115 → said (b ∷ []) ≡ Some Settle
unfolding call_text
said_s b e = letter_said Settle letter_s b refl tt e

pub said_no_letter : (b : ℕ) → (b ≡ 117 → ⊥) → (b ≡ 115 → ⊥) → said (b ∷ []) ≡ None
said_no_letter b u s = says_other b [] (λ c h e t. omega (arith, ap length e, decimal_not_empty c)) (λ e. ⊎_elim u s)

pub said_plus : (sign c : ℕ) → sign ≡ 43 → c ≤ 255 → said (sign ∷ decimal c) ≡ Some (Activate c)
unfolding call_text
said_plus sign c e h = says_call (sign ∷ decimal c) (Activate c) (ap (λ (x : ℕ). x ∷ decimal c) e) h

pub said_minus : (sign c : ℕ) → sign ≡ 45 → c ≤ 255 → said (sign ∷ decimal c) ≡ Some (Deactivate c)
unfolding call_text
said_minus sign c e h = says_call (sign ∷ decimal c) (Deactivate c) (ap (λ (x : ℕ). x ∷ decimal c) e) h

pub said_no_sign : (b : ℕ) (text : List ℕ) → 0 < length text → (b ≡ 43 → ⊥) → (b ≡ 45 → ⊥) → said (b ∷ text) ≡ None
said_no_sign b text p a d = says_other b text (λ k h e. ⊎_elim a d) (λ e s. omega (arith, ap length e))

-- a text that is no number's behind a byte
pub said_no_number : (b : ℕ) (text : List ℕ) → 0 < length text → Reads text None → said (b ∷ text) ≡ None
said_no_number b text p t =
    says_other b text (λ c h e s. none_below text t c (omega arith) e) (λ e s. omega (arith, ap length e))

pub said_number : (b c : ℕ) (text : List ℕ) → Reads text (Some c) → said (b ∷ decimal c) ≡ said (b ∷ text)
said_number b c text t = let (h, e) = t.right c refl in ap (λ (l : List ℕ). said (b ∷ l)) (sym e)

-- a text that is no number's behind a byte that is no letter
said_no_number_behind : (b : ℕ) (text : List ℕ) → (b ≡ 117 → ⊥) → (b ≡ 115 → ⊥) → Reads text None → said (b ∷ text) ≡ None
said_no_number_behind b [] u s t = said_no_letter b u s
said_no_number_behind b (d ∷ ds) u s t = said_no_number b (d ∷ ds) (omega arith) t

-- the same of a text by its first byte and the bytes behind it
abbrev behind : List ℕ → List ℕ
behind text = take (length text - 1) (drop 1 text)

behind_all : (b : ℕ) (bs : List ℕ) → behind (b ∷ bs) ≡ bs
behind_all b bs = take_all (length (b ∷ bs) - 1) bs (omega arith)

pub text_u : (text : List ℕ) → 1 ≤ length text → length text < 2 → get_or text 0 0 ≡ 117 → said text ≡ Some Undo
text_u [] l s e = absurd (omega arith)
text_u (b ∷ []) l s e = said_u b e
text_u (b ∷ d ∷ ds) l s e = absurd (omega arith)

pub text_s : (text : List ℕ) → 1 ≤ length text → length text < 2 → get_or text 0 0 ≡ 115 → said text ≡ Some Settle
text_s [] l s e = absurd (omega arith)
text_s (b ∷ []) l s e = said_s b e
text_s (b ∷ d ∷ ds) l s e = absurd (omega arith)

pub text_plus : (text : List ℕ) (c : ℕ) → 1 ≤ length text → get_or text 0 0 ≡ 43 → Reads (behind text) (Some c) → said text ≡ Some (Activate c)
text_plus [] c l e t = absurd (omega arith)
text_plus (b ∷ bs) c l e t =
    let r : Reads bs (Some c) = subst (λ (x : List ℕ). Reads x (Some c)) (behind_all b bs) t in
    let (h, q) = r.right c refl in
    sym (said_number b c bs r) ∙ said_plus b c e (omega arith)

pub text_minus : (text : List ℕ) (c : ℕ) → 1 ≤ length text → get_or text 0 0 ≡ 45 → Reads (behind text) (Some c) → said text ≡ Some (Deactivate c)
text_minus [] c l e t = absurd (omega arith)
text_minus (b ∷ bs) c l e t =
    let r : Reads bs (Some c) = subst (λ (x : List ℕ). Reads x (Some c)) (behind_all b bs) t in
    let (h, q) = r.right c refl in
    sym (said_number b c bs r) ∙ said_minus b c e (omega arith)

text_no_number : (text : List ℕ) → 1 ≤ length text → (get_or text 0 0 ≡ 117 → ⊥) → (get_or text 0 0 ≡ 115 → ⊥) → Reads (behind text) None → said text ≡ None
text_no_number [] l u s t = absurd (omega arith)
text_no_number (b ∷ bs) l u s t = said_no_number_behind b bs u s (subst (λ (x : List ℕ). Reads x None) (behind_all b bs) t)

pub text_plus_none : (text : List ℕ) → 1 ≤ length text → get_or text 0 0 ≡ 43 → Reads (behind text) None → said text ≡ None
text_plus_none text l e t = text_no_number text l (λ u. omega arith) (λ s. omega arith) t

pub text_minus_none : (text : List ℕ) → 1 ≤ length text → get_or text 0 0 ≡ 45 → Reads (behind text) None → said text ≡ None
text_minus_none text l e t = text_no_number text l (λ u. omega arith) (λ s. omega arith) t

pub text_no_letter : (text : List ℕ) → 1 ≤ length text → length text < 2 → (get_or text 0 0 ≡ 117 → ⊥) → (get_or text 0 0 ≡ 115 → ⊥) → said text ≡ None
text_no_letter [] l s u v = absurd (omega arith)
text_no_letter (b ∷ []) l s u v = said_no_letter b u v
text_no_letter (b ∷ d ∷ ds) l s u v = absurd (omega arith)

pub text_no_sign : (text : List ℕ) → 2 ≤ length text → (get_or text 0 0 ≡ 43 → ⊥) → (get_or text 0 0 ≡ 45 → ⊥) → said text ≡ None
text_no_sign [] l a d = absurd (omega arith)
text_no_sign (b ∷ bs) l a d = said_no_sign b bs (omega arith) a d

-- a call's text has one to four bytes
text_length : (k : Call) → Askable k → (0 < length (call_text k)) × (length (call_text k) ≤ 4)
unfolding call_text
text_length (Activate c) h = omega (arith, decimal_length 2 c (omega arith))
text_length (Deactivate c) h = omega (arith, decimal_length 2 c (omega arith))
text_length Undo h = omega arith
text_length Settle h = omega arith

pub says_nothing : said [] ≡ None
says_nothing = says_none [] (λ k a e. omega (arith, (text_length k a).0, ap length e))

pub says_too_long : (line : List ℕ) → 4 < length line → said line ≡ None
says_too_long line l = says_none line (λ k a e. omega (arith, (text_length k a).1, ap length e))

pub said_nothing : (line : List ℕ) → length line ≡ 0 → said line ≡ None
said_nothing [] e = says_nothing
said_nothing (b ∷ bs) e = absurd (omega arith)
