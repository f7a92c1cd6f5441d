use mathlib.Core.Bool.{cond}
use mathlib.Core.Path.{ap, sym, subst, ◌∙◌}
use Rattle.net.specs.Markings.{AtMost}
use Rattle.step.specs.Places.{marking_of, put_at}
use Rattle.step.specs.declared.places.PlaceKind.{PlaceKind}
use Rattle.step.specs.declared.places.PlaceKind.TheVariants.{Pr, PrNot}
use Rattle.step.proofs.Requests.{begun, put_low}
use Rattle.step.proofs.places.Places.begin.Goals as goal

pub returns-clause-put : goal.returns-clause-put
returns-clause-put c =
    c.put.ensures.marking ∙ ap (λ (k : PlaceKind). put_at k c.args.request.context 1 (marking_of c.args.self.now)) c.from.ensures

pub returns-clause-marking : goal.returns-clause-marking
returns-clause-marking c =
    let m = marking_of c.args.self.now in
    let r = c.args.request in
    λ rest. returns-clause-put c ∙ ap (put_at (cond r.on Pr PrNot) r.context 1) rest ∙ begun m.count r.on r.context

pub returns-clause-low : goal.returns-clause-low
returns-clause-low c =
    subst (AtMost 1) (sym (returns-clause-put c)) (put_low c.args.request.on c.args.request.context (marking_of c.args.self.now) c.requires.low)
