-- Each kind of places finds what it had before the others moved.
use Rattle.sets.specs.Sets.{members}
use Rattle.step.specs.Places.{marking_of, tokens_on, Movable}
use Rattle.step.specs.declared.places.PlaceKind.TheVariants.{Pr, PrNot}
use Rattle.step.proofs.Firings.{counts_movable, pr_movable, pr_not_movable, all_fired}
use Rattle.step.proofs.places.Places.fire.Goals as goal

pub move_tokens-requires : goal.move_tokens-requires
move_tokens-requires c =
    counts_movable c.args.self.now c.args.arcs.now c.requires

pub move_tokens-requires-2 : goal.move_tokens-requires-2
move_tokens-requires-2 c =
    let a = c.args.arcs.now in
    let p = c.move_tokens.new.self in
    let can : Movable p.contexts (members a.takes_pr) (members a.gives_pr) (λ j. 65535) (tokens_on Pr (marking_of p)) =
    rw (c.move_tokens.ensures.limits.contexts, c.move_tokens.ensures.marking) (pr_movable c.args.self.now a c.requires) in
    can

pub move_tokens-requires-3 : goal.move_tokens-requires-3
move_tokens-requires-3 c =
    let a = c.args.arcs.now in
    let p = c.move_tokens-2.new.self in
    let can : Movable p.contexts (members a.takes_not) (members a.gives_not) (λ j. 65535) (tokens_on PrNot (marking_of p)) =
    rw (c.move_tokens-2.ensures.limits.contexts, c.move_tokens-2.ensures.marking, c.move_tokens.ensures.limits.contexts, c.move_tokens.ensures.marking)
    (pr_not_movable c.args.self.now a c.requires) in
    can

pub returns-clause-marking : goal.returns-clause-marking
returns-clause-marking c =
    let m = marking_of c.args.self.now in
    let m₁ = marking_of c.move_tokens.new.self in
    let m₂ = marking_of c.move_tokens-2.new.self in
    let m₃ = marking_of c.move_tokens-3.new.self in
    all_fired c.args.arcs.now m m₁ m₂ m₃ c.move_tokens.ensures.limits.contexts c.move_tokens-2.ensures.limits.contexts c.move_tokens.ensures.marking c.move_tokens-2.ensures.marking c.move_tokens-3.ensures.marking
