-- What a session writes and where it stands, over one byte, a piece, and what was read so far.
-- Assumes nothing.
use Rattle.std.proofs.Common.{◌≡◌, ℕ, true, false, ◌+◌, ◌<◌, List, [], ◌∷◌, ◌++◌, length, take, drop, Option, Some, None, IfSome, IfOk, Result, Ok, Err, OnErr, MatchResult, is_ok, refl, sym, ap, subst, ◌∙◌, append_assoc, append-nil, take-append-drop}
use lib.ListN.{get_or}
use lib.Seq.{take-suc, drop-cons}
use native.Mathlib.Numerals.{add-one}
use Prim.Native.Nat.{suc}
use Rattle.std.specs.Io.KnownBytes.{Appends, Consumes, Keeps, IsAtEnd}
use Rattle.std.proofs.Math.Seq.{take-append_seam}
use Rattle.std.proofs.KnownBytes.{Consumes-nil, Appends-nil, Consumes-trans, Appends-trans, Consumes-kept}
use Rattle.model.specs.Machine.{State}
use Rattle.session.specs.declared.talking.Stop.{Stop}
use Rattle.session.specs.Kept.{no_bytes}
use Rattle.session.specs.Lines.{lines_of}
use Rattle.session.specs.Transcripts.{transcript, state_after_lines, LinesTold, FrontTold}
use Rattle.session.specs.Points.{Point, start, told_by, point_after, last_told, Goes, Breaks, Ends, BreaksEnd}
use Rattle.session.proofs.Laws.{told_append, after_append, told_law, whole_told, whole_after}

-- ---- bytes behind bytes

-- a front behind all of what was written before
front_behind : (w0 w1 w2 : Option (List ℕ)) (before text : List ℕ) → Appends w0 w1 before → (n : ℕ) × Appends w1 w2 (take n text)
    → (n : ℕ) × Appends w0 w2 (take n (before ++ text))
front_behind w0 w1 w2 before text wrote (n, more) =
    let front : List ℕ = before ++ take n text in
    let split : before ++ text ≡ front ++ drop n text =
    ap (λ (t : List ℕ). before ++ t) (sym (take-append-drop n text)) ∙ sym (append_assoc before (take n text) (drop n text)) in (
      length front,
      subst (Appends w0 w2) (sym (ap (take (length front)) split ∙ take-append_seam front (drop n text)))
          (Appends-trans w0 w1 w2 before (take n text) wrote more),
    )

module _ {A B : Point → Type 0} {w0 w1 : Option (List ℕ)} (xs : List ℕ) (g : Goes A B xs w0 w1) where
  pub goes_trans : {C : Point → Type 0} {w2 : Option (List ℕ)} (ys : List ℕ) → Goes B C ys w1 w2 → Goes A C (xs ++ ys) w0 w2
  goes_trans {C} {w2} ys h =
      record {
        stands = λ p a. subst C (sym (after_append p xs ys)) (h.stands (point_after p xs) (g.stands p a));
        writes = λ p a.
            subst (Appends w0 w2) (sym (told_append p xs ys))
            (Appends-trans w0 w1 w2 (told_by p xs) (told_by (point_after p xs) ys) (g.writes p a) (h.writes (point_after p xs) (g.stands p a)));
      }

  pub breaks_behind : (w2 : Option (List ℕ)) (ys : List ℕ) → Breaks B ys w1 w2 → Breaks A (xs ++ ys) w0 w2
  breaks_behind w2 ys f p a =
      let here = point_after p xs in
      let (n, wrote) = front_behind w0 w1 w2 (told_by p xs) (told_by here ys) (g.writes p a) (f here (g.stands p a)) in
      (n, subst (λ (t : List ℕ). Appends w0 w2 (take n t)) (sym (told_append p xs ys)) wrote)

-- a front of what some bytes are told is one of what they and more bytes are told
longer : (w0 w1 : Option (List ℕ)) (text more : List ℕ) → (n : ℕ) × Appends w0 w1 (take n text) → (n : ℕ) × Appends w0 w1 (take n (text ++ more))
longer w0 w1 text more (n, wrote) =
    let front : List ℕ = take n text in
    let split : text ++ more ≡ front ++ (drop n text ++ more) =
    ap (λ (t : List ℕ). t ++ more) (sym (take-append-drop n text)) ∙ append_assoc front (drop n text) more in
    (length front, subst (Appends w0 w1) (sym (ap (take (length front)) split ∙ take-append_seam front (drop n text ++ more))) wrote)

pub breaks_longer : {A : Point → Type 0} (w0 w1 : Option (List ℕ)) (xs ys : List ℕ) → Breaks A xs w0 w1 → Breaks A (xs ++ ys) w0 w1
breaks_longer w0 w1 xs ys f p a =
    let (n, wrote) = longer w0 w1 (told_by p xs) (told_by (point_after p xs) ys) (f p a) in
    (n, subst (λ (t : List ℕ). Appends w0 w1 (take n t)) (sym (told_append p xs ys)) wrote)

pub goes_nothing : {A : Point → Type 0} {w : Option (List ℕ)} → Goes A A [] w w
goes_nothing {A} {w} = record { stands = λ p a. a; writes = λ p a. Appends-nil w }

-- one byte of a piece behind those before it
module _ {A B : Point → Type 0} (w0 w1 w2 : Option (List ℕ)) (piece : List ℕ) (i : ℕ) (l : i < length piece) (g : Goes A B (take i piece) w0 w1) where
  pub goes_at : {C : Point → Type 0} → Goes B C (get_or piece i 0 ∷ []) w1 w2 → Goes A C (take (i + 1) piece) w0 w2
  goes_at {C} h =
      subst (λ (t : List ℕ). Goes A C t w0 w2) (sym (ap (λ (k : ℕ). take k piece) (add-one i) ∙ take-suc piece i 0 l))
      (goes_trans (take i piece) g (get_or piece i 0 ∷ []) h)

  pub breaks_at : Breaks B (get_or piece i 0 ∷ []) w1 w2 → Breaks A piece w0 w2
  breaks_at f =
      let b : ℕ = get_or piece i 0 in
      let rest : List ℕ = drop (suc i) piece in
      subst (λ (t : List ℕ). Breaks A t w0 w2) (ap (λ (t : List ℕ). take i piece ++ t) (sym (drop-cons piece i 0 l)) ∙ take-append-drop i piece)
      (breaks_behind (take i piece) g w2 (b ∷ rest) (breaks_longer w1 w2 (b ∷ []) rest f))

-- ---- the talk

-- what was read so far from the start, what it was told, and where the session stands behind it
pub record Talked (r0 r1 w0 w1 : Option (List ℕ)) (s : State) (B : Point → Type 0) : Type 0 where
  pub taken : List ℕ
  pub read : Consumes r0 r1 taken
  pub stands : B (point_after (start s) taken)
  pub writes : Appends w0 w1 (told_by (start s) taken)

pub talked_nothing : (r w : Option (List ℕ)) (s : State) (B : Point → Type 0) → B (start s) → Talked r r w w s B
talked_nothing r w s B b = record { taken = []; read = Consumes-nil r; stands = b; writes = Appends-nil w }

front_of : (r0 r2 w0 w2 : Option (List ℕ)) (s : State) (t text : List ℕ) → Consumes r0 r2 t → (n : ℕ) × Appends w0 w2 (take n text)
    → (rest : List ℕ) → transcript s (lines_of t) ≡ text ++ rest → FrontTold r0 r2 w0 w2 s
front_of r0 r2 w0 w2 s t text c f rest e =
    let (n, wrote) = longer w0 w2 text rest f in
    (t, n, c, subst (λ (l : List ℕ). Appends w0 w2 (take n l)) (sym e) wrote)

module _ {r0 r1 w0 w1 : Option (List ℕ)} {s : State} {B : Point → Type 0} (t : Talked r0 r1 w0 w1 s B) (r2 : Option (List ℕ)) where
  -- the point behind what was read, and what was told up to there
  abbrev here : Point
  here = point_after (start s) t.taken

  abbrev told : List ℕ
  told = told_by (start s) t.taken

  pub talked_more : {w2 : Option (List ℕ)} {C : Point → Type 0} (piece : List ℕ) → Consumes r1 r2 piece → Goes B C piece w1 w2 → Talked r0 r2 w0 w2 s C
  talked_more {w2} {C} piece c g =
      record {
        taken = t.taken ++ piece;
        read = Consumes-trans r0 r1 r2 t.taken piece t.read c;
        stands = subst C (sym (after_append (start s) t.taken piece)) (g.stands here t.stands);
        writes = subst (Appends w0 w2) (sym (told_append (start s) t.taken piece)) (Appends-trans w0 w1 w2 told (told_by here piece) t.writes (g.writes here t.stands));
      }

  -- a piece was read, and of what it is told a front was written
  pub front_piece : (w2 : Option (List ℕ)) (piece : List ℕ) → Consumes r1 r2 piece → Breaks B piece w1 w2 → FrontTold r0 r2 w0 w2 s
  front_piece w2 piece c f =
      let input = t.taken ++ piece in
      let (n, wrote) = front_behind w0 w1 w2 told (told_by here piece) t.writes (f here t.stands) in
      front_of r0 r2 w0 w2 s input (told_by (start s) input) (Consumes-trans r0 r1 r2 t.taken piece t.read c)
      (n, subst (λ (l : List ℕ). Appends w0 w2 (take n l)) (sym (told_append (start s) t.taken piece)) wrote)
      (last_told (point_after (start s) input)) (whole_told s input)

  module _ (k : Keeps r1 r2) where
    -- nothing more was read or written
    pub front_kept : FrontTold r0 r2 w0 w1 s
    front_kept =
        front_of r0 r2 w0 w1 s t.taken told (Consumes-kept r0 r1 r2 t.taken t.read k)
        (length told, subst (Appends w0 w1) (sym (ap (take (length told)) (sym (append-nil told)) ∙ take-append_seam told [])) t.writes)
        (last_told here) (whole_told s t.taken)

    -- a read failed: each line that had ended was told its answer, and nothing else was written
    pub read_failed : LinesTold r0 r2 w0 w1 s
    read_failed = (t.taken, Consumes-kept r0 r1 r2 t.taken t.read k, subst (Appends w0 w1) (told_law s [] no_bytes t.taken refl) t.writes)

    -- the input has ended, and of what the last line is told a front was written
    pub front_end : (w2 : Option (List ℕ)) → BreaksEnd B w1 w2 → FrontTold r0 r2 w0 w2 s
    front_end w2 f =
        let (n, wrote) = front_behind w0 w1 w2 told (last_told here) t.writes (f here t.stands) in
        (t.taken, n, Consumes-kept r0 r1 r2 t.taken t.read k, subst (λ (l : List ℕ). Appends w0 w2 (take n l)) (sym (whole_told s t.taken)) wrote)

-- at the end nothing is left of what was to be read
taken_all : (r0 r1 r2 : Option (List ℕ)) (taken : List ℕ) (P : List ℕ → Type 0) → Consumes r0 r1 taken → Keeps r1 r2 → IsAtEnd r2 → P taken → IfSome r0 P
taken_all None r1 r2 taken P c k e p = tt
taken_all (Some x) None r2 taken P c k e p = absurd c
taken_all (Some x) (Some y) None taken P c k e p = absurd k
taken_all (Some x) (Some y) (Some z) taken P c k e p = subst P (sym (c ∙ ap (λ l. taken ++ l) (sym k ∙ e) ∙ append-nil taken)) p

-- the input has ended, and the last line was told its answer
pub ended : {r0 r1 w0 w1 : Option (List ℕ)} {s : State} {B : Point → Type 0} (r2 w2 : Option (List ℕ)) {C : State → Type 0} → Talked r0 r1 w0 w1 s B
    → Keeps r1 r2 → IsAtEnd r2 → Ends B C w1 w2
    → IfSome r0 (λ input. Appends w0 w2 (transcript s (lines_of input))) × IfSome r0 (λ input. C (state_after_lines s (lines_of input)))
ended {r0} {r1} {w0} {w1} {s} {B} r2 w2 {C} t k e g =
    let here : Point = point_after (start s) t.taken in (
      taken_all r0 r1 r2 t.taken (λ input. Appends w0 w2 (transcript s (lines_of input))) t.read k e
          (subst (Appends w0 w2) (sym (whole_told s t.taken)) (Appends-trans w0 w1 w2 (told_by (start s) t.taken) (last_told here) t.writes (g.writes here t.stands))),
      taken_all r0 r1 r2 t.taken (λ input. C (state_after_lines s (lines_of input))) t.read k e (subst C (sym (whole_after s t.taken)) (g.shows here t.stands)),
    )

-- a read of nothing
pub quiet : (a b : Option (List ℕ)) (n : ℕ) (xs : List ℕ) → n ≡ 0 → Consumes a b (take n xs) → Keeps a b
quiet None b n xs e c = tt
quiet (Some x) None n xs e c = absurd c
quiet (Some x) (Some y) n xs e c = sym (c ∙ ap (λ k. take k xs ++ y) e)

-- ---- what a Result was before its error was wrapped in a Stop

pub mapped_ok : {T E : Type 0} (r : Result T E) (x : T) (P : T → Type 0) (Q : E → Type 0) → MatchResult r (λ y. ◌≡◌ {A = Result T Stop} (Ok x) (Ok y)) Q → true ≡ is_ok r
    → IfOk r P → P x
mapped_ok (Ok y) x P Q m v p = let same : y ≡ x = cc in subst P same p
mapped_ok (Err d) x P Q m v p = absurd (cc v)

-- what a read took, where its number is that of the Result
pub bytes_read : {E : Type 0} (Q : E → Type 0) (r : Result ℕ E) (n : ℕ) (r0 r1 : Option (List ℕ)) (piece : List ℕ)
    → MatchResult r (λ y. ◌≡◌ {A = Result ℕ Stop} (Ok n) (Ok y)) Q → true ≡ is_ok r → IfOk r (λ k. Consumes r0 r1 (take k piece))
    → Consumes r0 r1 (take n piece)
bytes_read Q r n r0 r1 piece m v ok = mapped_ok r n (λ k. Consumes r0 r1 (take k piece)) Q m v ok

pub mapped_err : {T E : Type 0} (r : Result T E) (P : Type 0) → false ≡ is_ok r → OnErr r P → P
mapped_err (Ok y) P v p = absurd (cc v)
mapped_err (Err d) P v p = p
