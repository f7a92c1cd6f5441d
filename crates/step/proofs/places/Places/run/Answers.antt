use Rattle.std.proofs.Common.{arith}
use Rattle.step.proofs.Gathering.{bit_of_byte}
use Rattle.step.proofs.Running.{described, going_start, going_on, in_arrays, can_fire, ends_quiet, ends_stopped}
use Rattle.step.proofs.places.Places.run.Goals as goal

pub loop-i-init : goal.loop-i-init
loop-i-init c =
    going_start c.args.net.now c.args.self.now c.requires.contexts c.requires.low

pub arcs-arcs-requires : goal.arcs-arcs-requires
arcs-arcs-requires c =
    in_arrays c.args.net.now c.args.self.now c.loop-i.self c.loop-i.invariant (rw c.in-Some.is at c.next.ensures)

pub fire-requires : goal.fire-requires
fire-requires c =
    let can = can_fire c.args.net.now c.args.self.now c.loop-i.self c.loop-i.invariant (rw c.in-Some.is at c.next.ensures) c.if-firings-eq-STEP_LIMIT.false c.arcs-arcs.ensures.entry in
    record { ready = can.ready; low = can.low }

pub loop-i-preserved : goal.loop-i-preserved
loop-i-preserved c =
    rw (c.from-forced.ensures, bit_of_byte c.is_forced.result)
    (going_on c.args.net.now c.args.self.now c.loop-i.self c.loop-i.invariant (rw c.in-Some.is at c.next.ensures) c.if-firings-eq-STEP_LIMIT.false c.arcs-arcs.ensures.entry
    c.fire.new.self c.fire.ensures.marking
    (record { contexts = c.fire.ensures.limits.contexts; capacities = c.fire.ensures.limits.capacities }) c.is_forced.ensures)

pub returns-then-firings-eq-STEP_LIMIT-clause-every : goal.returns-then-firings-eq-STEP_LIMIT-clause-every
returns-then-firings-eq-STEP_LIMIT-clause-every c =
    λ whole d.
    ends_stopped c.args.net.now c.args.self.now c.loop-i.self c.loop-i.invariant (rw c.in-Some.is at c.next.ensures) c.if-firings-eq-STEP_LIMIT.true whole d
    tt

pub returns-then-firings-eq-STEP_LIMIT-clause-outcome : goal.returns-then-firings-eq-STEP_LIMIT-clause-outcome
returns-then-firings-eq-STEP_LIMIT-clause-outcome c =
    returns-then-firings-eq-STEP_LIMIT-clause-every c _ (described c.args.net.now c.args.self.now.capacities (omega (arith, c.args.net.now.few_contexts)))

pub returns-clause-every : goal.returns-clause-every
returns-clause-every c =
    λ whole d. ends_quiet c.args.net.now c.args.self.now c.loop-i.self c.loop-i.invariant (rw c.in_default.is at c.next.ensures) whole d tt

pub returns-clause-outcome : goal.returns-clause-outcome
returns-clause-outcome c =
    returns-clause-every c _ (described c.args.net.now c.args.self.now.capacities (omega (arith, c.args.net.now.few_contexts)))
