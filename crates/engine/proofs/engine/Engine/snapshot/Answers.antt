use Rattle.std.proofs.Common.{ap, sym, ◌∙◌}
use Rattle.relations.specs.Reading.{relations_of}
use Rattle.engine.specs.Open.{newest}
use Rattle.engine.proofs.Snapshots.{few_related, sound_of, stands}
use Rattle.engine.proofs.engine.Engine.snapshot.Goals as goal

pub returns-clause-sound : goal.returns-clause-sound
returns-clause-sound c =
    let e = c.args.self.now in
    let related = sym c.relations-relations.ensures ∙ ap relations_of (sym c.padded.ensures.items) in
    sound_of _ e.net e.opened (sym c.contexts.ensures.contexts) related (few_related e.net c.relations-relations.result.now c.relations-relations.ensures) c.len.ensures.value

pub returns-clause-state : goal.returns-clause-state
returns-clause-state c settled =
    let e = c.args.self.now in
    let related = sym c.relations-relations.ensures ∙ ap relations_of (sym c.padded.ensures.items) in
    let sound = sound_of _ e.net e.opened (sym c.contexts.ensures.contexts) related (few_related e.net c.relations-relations.result.now c.relations-relations.ensures) c.len.ensures.value in
    sym (stands _ e.net e.opened (sym c.contexts.ensures.contexts) related sound
    (λ i. newest (sym c.requests.ensures i) (sym c.markings.ensures i) (sym c.first.ensures i) (sym c.len.ensures.value i)) settled)
