-- What the lines of an input are told by a machine (docs/MACHINE.md, "bench-run").
-- Assumes nothing.
use Rattle.std.specs.Prelude.{ℕ, ◌≡◌, List, [], ◌∷◌, ◌++◌, take, Option, Some, None, IfSome}
use Rattle.std.specs.Io.KnownBytes.{Appends, Consumes}
use Rattle.model.specs.Relations.{size}
use Rattle.model.specs.Machine as Machine
use Rattle.model.specs.Machine.{State, respond}
use Rattle.model.specs.declared.Call.{Call}
use Rattle.engine.specs.View.{Shows}
use Rattle.engine.specs.declared.engine.Engine.{Engine}
use Rattle.session.specs.Calls.{said}
use Rattle.session.specs.Lines.{whole_lines, lines_of}
use Rattle.session.specs.Answers.{answer_text, no_call_text}

-- the line that answers a call
abbrev pub answer_line : Call → Machine.Result → List ℕ
answer_line k q = answer_text k q.answer.verdict q.answer.firings q.answer.forced (size q.state.board.net) q.state.board.counts

-- What a line is told that says this call, or none, and the state after it: a line of no call changes nothing.
abbrev pub told : State → Option Call → List ℕ
told s None = no_call_text
told s (Some k) = answer_line k (respond s k)

abbrev pub state_after : State → Option Call → State
state_after s None = s
state_after s (Some k) = (respond s k).state

-- what the lines are told one after the other, each in the state that those before it left
abbrev pub transcript : State → List (List ℕ) → List ℕ
transcript s [] = []
transcript s (line ∷ lines) = told s (said line) ++ transcript (state_after s (said line)) lines

-- the state after the lines
abbrev pub state_after_lines : State → List (List ℕ) → State
state_after_lines s [] = s
state_after_lines s (line ∷ lines) = state_after_lines (state_after s (said line)) lines

-- ---- a talk over a reader and a writer, by the bytes that the reader had and has, and those that the writer had and has

-- each line of the input was told its answer, and nothing else was written
abbrev pub Told : (r0 w0 w1 : Option (List ℕ)) → State → Type 0
Told r0 w0 w1 s = IfSome r0 (λ input. Appends w0 w1 (transcript s (lines_of input)))

-- the engine holds the state after the lines
abbrev pub Leaves : (r0 : Option (List ℕ)) → State → Engine → Type 0
Leaves r0 s left = IfSome r0 (λ input. Shows left (state_after_lines s (lines_of input)))

-- each line that had ended was told its answer, and nothing else was written
abbrev pub LinesTold : (r0 r1 w0 w1 : Option (List ℕ)) → State → Type 0
LinesTold r0 r1 w0 w1 s = (taken : List ℕ) × Consumes r0 r1 taken × Appends w0 w1 (transcript s (whole_lines [] taken))

-- a front of the answers to what was read was written, and nothing else
abbrev pub FrontTold : (r0 r1 w0 w1 : Option (List ℕ)) → State → Type 0
FrontTold r0 r1 w0 w1 s = (taken : List ℕ) × (n : ℕ) × Consumes r0 r1 taken × Appends w0 w1 (take n (transcript s (lines_of taken)))

-- the text is what a line is told that says this call, or none, and the engine goes on as the machine does
pub record Tells (call : Option Call) (old new : Engine) (text : List ℕ) : Type 0 where
  pub tells : (s : State) → Shows old s → text ≡ told s call
  pub shows : (s : State) → Shows old s → Shows new (state_after s call)
