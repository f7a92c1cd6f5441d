use Rattle.std.proofs.Common.{[], ℕ, ap, ◌∙◌}
use Rattle.std.specs.Prelude.{Option}
use Rattle.std.specs.Option.{unwrap_or}
use Rattle.engine.specs.View.{state}
use Rattle.history.proofs.Ran.{ran_none, ran_some, some_written}
use Rattle.history.proofs.lists.run.Goals as goal

pub returns-in_err-calls-clause-ran : goal.returns-in_err-calls-clause-ran
returns-in_err-calls-clause-ran c =
    ap (λ (r : Option ℕ). record { written = unwrap_or r 0; output = c.args.out.now }) c.from_residual.ensures
    ∙ ran_none c.args.image.now c.args.calls.now c.args.out.now c.in_err-calls.ensures.none

pub returns-clause-ran : goal.returns-clause-ran
returns-clause-ran c =
    ran_some c.args.image.now c.args.calls.now c.args.out.now (state c.load_into.new.engine []) c.in_ok-calls.calls.now _ _ c.in_ok-calls.ensures.some
    c.load_into.ensures.engine c.in_ok-calls.ensures.calls c.run_on.ensures

pub returns-clause-some : goal.returns-clause-some
returns-clause-some c = some_written _ _ _ _ _ c.run_on.ensures
