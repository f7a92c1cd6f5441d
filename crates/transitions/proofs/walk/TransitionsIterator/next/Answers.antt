use Rattle.std.proofs.Common.{ℕ, Some, List, map, sym, ap, ◌∙◌, rules}
use Rattle.model.specs.declared.Relation.{Relation}
use Rattle.model.specs.Transitions.{extra}
use Rattle.transitions.specs.Arcs.{arcs_of}
use Rattle.model.specs.Image.{relation_from}
use Rattle.relations.specs.Reading.{relations_of}
use Rattle.relations.specs.Lists.{net_of}
use Rattle.transitions.proofs.Walks.{left, own_first, left_extra, left_none}
use Rattle.transitions.proofs.walk.TransitionsIterator.next.Goals as goal

pub returns-then-number-contexts-clause-steps : goal.returns-then-number-contexts-clause-steps
returns-then-number-contexts-clause-steps c =
    own_first c.args.self.now c.own.result c.contexts.ensures.value c.if-number-contexts.true c.own.ensures

pub returns-then-number-contexts-clause-goes : goal.returns-then-number-contexts-clause-goes
returns-then-number-contexts-clause-goes c =
    let steps = own_first c.args.self.now c.own.result c.contexts.ensures.value c.if-number-contexts.true c.own.ensures in
    search rules

pub returns-in-Some-extra-clause-steps : goal.returns-in-Some-extra-clause-steps
returns-in-Some-extra-clause-steps c =
    let s = c.loop-triple.self in
    let net = net_of s.list.now in
    sym c.loop-triple.invariant.same
    ∙ ap (λ (ts : List (List ℕ)). left net s.next (relations_of ts)) c.in-Some.ensures.cases.0
    ∙ left_extra net s.next c.loop-triple.invariant.past (relation_from c.in-Some.field-0-0.now) (relations_of c.in-Some.others.now) (Some c.in-Some-extra.arcs) (c.in-Some-extra.ensures ∙ ap (λ (r : Relation). map arcs_of (extra net.rels r)) c.of.ensures)

pub returns-clause-steps : goal.returns-clause-steps
returns-clause-steps c =
    let s = c.loop-triple.self in
    let none = left_none (net_of s.list.now) s.next c.loop-triple.invariant.past s.relations.now c.in_default.ensures.cases in
    (sym c.loop-triple.invariant.same ∙ none, none)
