-- Each exit of the talk says what was read, and that what was written is a front of what that is told.
use Rattle.std.proofs.Common.{rules, refl, take, length, ◌≡◌, ◌<◌}
use Rattle.std.proofs.lemmas.Result.{MatchResult-from_err}
use Rattle.std.proofs.KnownBytes.{Keeps-refl}
use Rattle.std.specs.Io.KnownBytes.{IsAtEnd}
use Rattle.session.proofs.Reading.{talked_nothing, talked_more, front_piece, front_kept, front_end, read_failed, ended, quiet, bytes_read, mapped_ok, mapped_err}
use Rattle.session.proofs.talking.talk.Goals as goal

pub loop-init : goal.loop-init
loop-init g c = talked_nothing _ _ _ _ (refl, c.new.ensures.is)

pub returns-in_err-n-clause-read : goal.returns-in_err-n-clause-read
returns-in_err-n-clause-read g c =
    let kept = mapped_err _ _ c.in_err-n.ensures.variant c.read_some.ensures.err in
    MatchResult-from_err c.from_residual.result _ _ c.from_residual.ensures.0 (λ e read. read_failed c.loop.invariant _ kept)

pub returns-in_err-n-clause-err : goal.returns-in_err-n-clause-err
returns-in_err-n-clause-err g c =
    let kept = mapped_err _ _ c.in_err-n.ensures.variant c.read_some.ensures.err in
    MatchResult-from_err c.from_residual.result _ _ c.from_residual.ensures.0 (λ e. front_kept c.loop.invariant _ kept)

pub returns-in_err-map_err-clause-err : goal.returns-in_err-map_err-clause-err
returns-in_err-map_err-clause-err g c =
    let read = bytes_read _ _ _ _ _ _ c.in_ok-n.ensures.cases c.in_ok-n.ensures.variant c.read_some.ensures.ok in
    let wrote = mapped_err _ _ c.in_err-map_err.ensures.variant c.finish.ensures.err in
    MatchResult-from_err c.from_residual-in_err-map_err.result _ _ c.from_residual-in_err-map_err.ensures.0
    (λ e. front_end c.loop.invariant _ (quiet _ _ _ _ c.if-n-eq0.true read) _ wrote)

pub returns-then-n-eq0 : goal.returns-then-n-eq0
returns-then-n-eq0 g c =
    let read = bytes_read _ _ _ _ _ _ c.in_ok-n.ensures.cases c.in_ok-n.ensures.variant c.read_some.ensures.ok in
    let end = mapped_ok _ _ (λ n. n ≡ 0 → 0 < length c.loop.piece → IsAtEnd (g.R.Read.remaining c.read_some.new.reader)) _ c.in_ok-n.ensures.cases c.in_ok-n.ensures.variant c.read_some.ensures.end in
    let wrote = mapped_ok _ _ _ _ c.in_ok-map_err.ensures.cases c.in_ok-map_err.ensures.variant c.finish.ensures.ok in
    let all = ended _ _ c.loop.invariant (quiet _ _ _ _ c.if-n-eq0.true read) (end c.if-n-eq0.true (search rules)) wrote in
    record { told = all.0; machine = all.1; read = tt; err = tt; retried = tt }

pub returns-in_err-map_err-2-clause-err : goal.returns-in_err-map_err-2-clause-err
returns-in_err-map_err-2-clause-err g c =
    let read = bytes_read _ _ _ _ _ _ c.in_ok-n.ensures.cases c.in_ok-n.ensures.variant c.read_some.ensures.ok in
    let wrote = mapped_err _ _ c.in_err-map_err-2.ensures.variant c.take.ensures.err in
    MatchResult-from_err c.from_residual-in_err-map_err-2.result _ _ c.from_residual-in_err-map_err-2.ensures.0
    (λ e. front_piece c.loop.invariant _ _ (take c.in_ok-n.n c.read_some.new.piece) read wrote)

pub loop-preserved : goal.loop-preserved
loop-preserved g c =
    let read = bytes_read _ _ _ _ _ _ c.in_ok-n.ensures.cases c.in_ok-n.ensures.variant c.read_some.ensures.ok in
    let wrote = mapped_ok _ _ _ _ c.in_ok-map_err-2.ensures.cases c.in_ok-map_err-2.ensures.variant c.take.ensures.ok in
    talked_more c.loop.invariant _ (take c.in_ok-n.n c.read_some.new.piece) read wrote

pub returns-clause-read : goal.returns-clause-read
returns-clause-read g c = λ read. read_failed c.loop.invariant _ (Keeps-refl _)

pub returns-clause-err : goal.returns-clause-err
returns-clause-err g c = front_kept c.loop.invariant _ (Keeps-refl _)
