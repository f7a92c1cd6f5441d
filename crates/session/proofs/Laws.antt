-- What the bytes are told, one at a time, is what the lines are told.
-- Assumes nothing.
use Rattle.std.proofs.Common.{◌≡◌, ℕ, zero, suc, map, ◌+◌, ◌<◌, List, [], ◌∷◌, ◌++◌, length, get_or, Bool, true, false, Some, refl, sym, ap, subst, zero-add, ◌∙◌, append_assoc, append-nil, arith, ◌==◌, if◌then◌else◌}
use native.Mathlib.Nat.{add-zero}
use Rattle.model.specs.Sets.{range}
use Rattle.engine.specs.View.{state, Shows, Replies, listed_counts}
use Rattle.engine.specs.declared.engine.Engine.{Engine}
use Rattle.model.specs.Relations.{size}
use Rattle.model.specs.Machine as Machine
use Rattle.model.specs.Machine.{State, Counts, respond}
use Rattle.model.specs.declared.Call.{Call}
use Rattle.model.specs.declared.Answer.{Answer}
use Rattle.model.specs.declared.Verdict.{Verdict}
use Rattle.model.specs.Refusals.{verdict_number}
use Rattle.session.specs.declared.line.Line.{Line}
use Rattle.session.specs.Decimals.{decimal}
use Rattle.session.specs.Calls.{call_text, said}
use Rattle.session.specs.Answers.{line_end, answer_text}
use Rattle.session.specs.Kept.{no_bytes, extended, said_of, taken}
use Rattle.session.specs.Lines.{whole_lines, last_line, with_last, lines_of}
use Rattle.session.specs.Transcripts.{answer_line, told, state_after, transcript, state_after_lines, Tells}
use Rattle.session.specs.Points.{Point, start, byte_told, byte_after, told_by, point_after, last_told, last_after}
use Rattle.session.proofs.Contexts.{contexts_same}
use Rattle.session.proofs.Keeping.{keeps_enough, kept_empty}

-- ---- a line that answers a call

length_listed : (f : Counts) (i n : ℕ) → length (map f (range i n)) ≡ n
length_listed f i zero = refl
length_listed f i (suc n) = ap suc (length_listed f (suc i) n)

get_listed : (f : Counts) (i n c : ℕ) → c < n → get_or (map f (range i n)) c 0 ≡ f (i + c)
get_listed f i zero c h = absurd (omega arith)
get_listed f i (suc n) zero h = ap f (sym (add-zero i))
get_listed f i (suc n) (suc c) h = let e : suc i + c ≡ i + suc c = omega arith in get_listed f (suc i) n c (omega arith) ∙ ap f e

same_line : (k : Call) (v : Verdict) (firings forced n : ℕ) (f g : Counts) → ((c : ℕ) → c < n → f c ≡ g c) → answer_text k v firings forced n f ≡ answer_text k v firings forced n g
unfolding answer_text
same_line k v firings forced n f g h =
    ap (λ (l : List ℕ). call_text k ++ (32 ∷ decimal (verdict_number v)) ++ (32 ∷ decimal firings) ++ (32 ∷ decimal forced) ++ l ++ (line_end ∷ []))
    (contexts_same f g n h)

pub answered : (k : Call) (q : Machine.Result) (answer : Answer) (counts text : List ℕ)
    → text ≡ answer_text k answer.verdict answer.firings answer.forced (length counts) (λ c. get_or counts c 0) → answer ≡ q.answer
    → counts ≡ listed_counts q.state → text ≡ answer_line k q
answered k q answer counts text t a e =
    let n : length counts ≡ size q.state.board.net = ap (length {A = ℕ}) e ∙ length_listed q.state.board.counts 0 (size q.state.board.net) in
    let h : (c : ℕ) → c < length counts → get_or counts c 0 ≡ q.state.board.counts c =
    λ c l. ap (λ (xs : List ℕ). get_or xs c 0) e ∙ get_listed q.state.board.counts 0 (size q.state.board.net) c (omega arith) ∙ ap q.state.board.counts (zero-add c) in
    t
    ∙ same_line k answer.verdict answer.firings answer.forced (length counts) (λ c. get_or counts c 0) q.state.board.counts h
    ∙ ap (λ (x : Answer). answer_text k x.verdict x.firings x.forced (length counts) q.state.board.counts) a
    ∙ ap (λ (m : ℕ). answer_text k q.answer.verdict q.answer.firings q.answer.forced m q.state.board.counts) n

pub replied : (k : Call) (old new : Engine) (answer : Answer) (counts text : List ℕ)
    → text ≡ answer_text k answer.verdict answer.firings answer.forced (length counts) (λ c. get_or counts c 0) → Replies k old new answer
    → counts ≡ listed_counts (state new []) → Tells (Some k) old new text
replied k old new answer counts text t r e =
    record {
      tells = λ s h.
          let a : answer ≡ (respond s k).answer = r.answers s.board.settled ∙ ap (λ (x : State). (respond x k).answer) h in
          let n : Shows new (respond s k).state = subst (λ (x : State). Shows new (respond x k).state) h (r.shows s.board.settled) in
          answered k (respond s k) answer counts text t a (e ∙ ap listed_counts n);
      shows = λ s h. subst (λ (x : State). Shows new (respond x k).state) h (r.shows s.board.settled);
    }

-- ---- bytes behind bytes

pub told_append : (p : Point) (xs ys : List ℕ) → told_by p (xs ++ ys) ≡ told_by p xs ++ told_by (point_after p xs) ys
told_append p [] ys = refl
told_append p (b ∷ xs) ys =
    ap (λ (t : List ℕ). byte_told p b ++ t) (told_append (byte_after p b) xs ys)
    ∙ sym (append_assoc (byte_told p b) (told_by (byte_after p b) xs) (told_by (point_after (byte_after p b) xs) ys))

pub after_append : (p : Point) (xs ys : List ℕ) → point_after p (xs ++ ys) ≡ point_after (point_after p xs) ys
after_append p [] ys = refl
after_append p (b ∷ xs) ys = after_append (byte_after p b) xs ys

-- ---- bytes and lines

taken_push : (l : Line) (line : List ℕ) (b : ℕ) → taken l (line ++ b ∷ []) ≡ extended (taken l line) b
taken_push l [] b = refl
taken_push l (c ∷ line) b = taken_push (extended l c) line b

abbrev pub at : State → Line → Point
at s line = record { machine = s; line = line }

pub told_law : (s : State) (line : List ℕ) (kept : Line) (bs : List ℕ) → kept ≡ taken no_bytes line → told_by (at s kept) bs ≡ transcript s (whole_lines line bs)
told_law s line kept [] e = refl
told_law s line kept (b ∷ bs) e =
    let k : said_of kept ≡ said line = ap said_of e ∙ keeps_enough line in
    elim (b == line_end) as (λ v. (if v then told s (said_of kept) else []) ++ told_by (if v then at (state_after s (said_of kept)) no_bytes else at s (extended kept b)) bs
    ≡ transcript s (if v then line ∷ whole_lines [] bs else whole_lines (line ++ b ∷ []) bs)) [
      | true ↦ rw k (ap (λ (t : List ℕ). told s (said line) ++ t) (told_law (state_after s (said line)) [] no_bytes bs refl))
      | false ↦ told_law s (line ++ b ∷ []) (extended kept b) bs (ap (λ (l : Line). extended l b) e ∙ sym (taken_push no_bytes line b))
    ]

pub after_law : (s : State) (line : List ℕ) (kept : Line) (bs : List ℕ) → kept ≡ taken no_bytes line
    → point_after (at s kept) bs ≡ at (state_after_lines s (whole_lines line bs)) (taken no_bytes (last_line line bs))
after_law s line kept [] e = ap (at s) e
after_law s line kept (b ∷ bs) e =
    let k : said_of kept ≡ said line = ap said_of e ∙ keeps_enough line in
    elim (b == line_end) as (λ v. point_after (if v then at (state_after s (said_of kept)) no_bytes else at s (extended kept b)) bs
    ≡ at (state_after_lines s (if v then line ∷ whole_lines [] bs else whole_lines (line ++ b ∷ []) bs))
    (taken no_bytes (if v then last_line [] bs else last_line (line ++ b ∷ []) bs))) [
      | true ↦ rw k (after_law (state_after s (said line)) [] no_bytes bs refl)
      | false ↦ after_law s (line ++ b ∷ []) (extended kept b) bs (ap (λ (l : Line). extended l b) e ∙ sym (taken_push no_bytes line b))
    ]

transcript_append : (s : State) (xs ys : List (List ℕ)) → transcript s (xs ++ ys) ≡ transcript s xs ++ transcript (state_after_lines s xs) ys
transcript_append s [] ys = refl
transcript_append s (x ∷ xs) ys =
    let next = state_after s (said x) in
    ap (λ (t : List ℕ). told s (said x) ++ t) (transcript_append next xs ys)
    ∙ sym (append_assoc (told s (said x)) (transcript next xs) (transcript (state_after_lines next xs) ys))

states_append : (s : State) (xs ys : List (List ℕ)) → state_after_lines s (xs ++ ys) ≡ state_after_lines (state_after_lines s xs) ys
states_append s [] ys = refl
states_append s (x ∷ xs) ys = states_append (state_after s (said x)) xs ys

-- the last line: one without bytes is none
last_line_told : (s : State) (lines : List (List ℕ)) (last : List ℕ)
    → transcript s (with_last lines last) ≡ transcript s lines ++ last_told (at (state_after_lines s lines) (taken no_bytes last))
last_line_told s lines [] = sym (append-nil (transcript s lines))
last_line_told s lines (b ∷ bs) =
    let now = state_after_lines s lines in
    let kept = taken no_bytes (b ∷ bs) in
    let e : told now (said (b ∷ bs)) ≡ last_told (at now kept) =
    ap (told now) (sym (keeps_enough (b ∷ bs))) ∙ ap (λ (v : Bool). if v then told now (said_of kept) else []) (sym (kept_empty b bs)) in
    transcript_append s lines ((b ∷ bs) ∷ []) ∙ ap (λ (t : List ℕ). transcript s lines ++ t) (append-nil (told now (said (b ∷ bs))) ∙ e)

last_line_after : (s : State) (lines : List (List ℕ)) (last : List ℕ)
    → state_after_lines s (with_last lines last) ≡ (last_after (at (state_after_lines s lines) (taken no_bytes last))).machine
last_line_after s lines [] = refl
last_line_after s lines (b ∷ bs) =
    let now = state_after_lines s lines in
    let kept = taken no_bytes (b ∷ bs) in
    states_append s lines ((b ∷ bs) ∷ [])
    ∙ ap (state_after now) (sym (keeps_enough (b ∷ bs)))
    ∙ ap (λ (v : Bool). (if v then at (state_after now (said_of kept)) no_bytes else at now kept).machine) (sym (kept_empty b bs))

-- ---- a whole input

pub whole_told : (s : State) (input : List ℕ) → transcript s (lines_of input) ≡ told_by (start s) input ++ last_told (point_after (start s) input)
whole_told s input =
    last_line_told s (whole_lines [] input) (last_line [] input)
    ∙ ap (λ (t : List ℕ). t ++ last_told (at (state_after_lines s (whole_lines [] input)) (taken no_bytes (last_line [] input)))) (sym (told_law s [] no_bytes input refl))
    ∙ ap (λ (p : Point). told_by (start s) input ++ last_told p) (sym (after_law s [] no_bytes input refl))

pub whole_after : (s : State) (input : List ℕ) → state_after_lines s (lines_of input) ≡ (last_after (point_after (start s) input)).machine
whole_after s input =
    last_line_after s (whole_lines [] input) (last_line [] input)
    ∙ ap (λ (p : Point). (last_after p).machine) (sym (after_law s [] no_bytes input refl))
