-- What was written where a write failed.
-- Assumes nothing.
use Rattle.std.proofs.Common.{◌≡◌, ℕ, List, [], ◌∷◌, ◌++◌, take, Bool, true, Option, sym, ap, subst, ◌∙◌, append-nil, if◌then◌else◌}
use lib.Dec.{ltb}
use Rattle.std.specs.Io.KnownBytes.{Appends}
use Rattle.model.specs.declared.Call.{Call}
use Rattle.engine.specs.declared.engine.Engine.{Engine}
use Rattle.session.specs.Kept.{said_of}
use Rattle.session.specs.Transcripts.{told, Tells}
use Rattle.session.specs.Points.{line_told, Breaks, BreaksEnd}
use Rattle.session.specs.Sessions.{Stands}
use Rattle.session.specs.declared.line.Line.{Line}
use Rattle.session.specs.declared.talking.Session.{Session}

pub line_breaks : (old : Session) (call : Option Call) (engine : Engine) (text : List ℕ) (w0 w1 : Option (List ℕ)) → Tells call old.engine engine text
    → call ≡ said_of old.line → (n : ℕ) × Appends w0 w1 (take n text) → Breaks (Stands old) (10 ∷ []) w0 w1
line_breaks old call engine text w0 w1 t says (n, wrote) p (h, e) =
    let here : text ≡ line_told p ++ [] = t.tells p.machine h ∙ ap (told p.machine) (says ∙ ap said_of e) ∙ sym (append-nil (line_told p)) in
    (n, subst (λ (l : List ℕ). Appends w0 w1 (take n l)) here wrote)

pub last_breaks : (old : Session) (w0 w1 : Option (List ℕ)) → ltb 0 old.line.len ≡ true → Breaks (Stands old) (10 ∷ []) w0 w1 → BreaksEnd (Stands old) w0 w1
last_breaks old w0 w1 some f p (h, e) =
    let (n, wrote) = f p (h, e) in
    let here : ltb 0 p.line.len ≡ true = ap (λ (l : Line). ltb 0 l.len) (sym e) ∙ some in (
      n,
      subst (λ (v : Bool). Appends w0 w1 (take n (if v then line_told p else []))) (sym here)
          (subst (λ (l : List ℕ). Appends w0 w1 (take n l)) (append-nil (line_told p)) wrote),
    )
