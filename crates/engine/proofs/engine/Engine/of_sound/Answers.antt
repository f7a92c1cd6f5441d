use Rattle.std.proofs.Common.{◌≡◌, ◌≤◌, length, ap, ◌∙◌, arith, rules}
use Rattle.model.specs.Relations.{Net}
use Rattle.relations.specs.Reading.{relations_of}
use Rattle.engine.proofs.Snapshots.{many_contexts, many_relations, many_open, front, misfitting, is_sound, stands}
use Rattle.engine.proofs.engine.Engine.of_sound.Goals as goal

pub returns-in_err-capacities-clause-none : goal.returns-in_err-capacities-clause-none
returns-in_err-capacities-clause-none c =
    let size : length c.args.snapshot.now.capacities ≡ 48 = search rules in
    let past = c.in_err-capacities.ensures.lookup.0 in
    let none = many_contexts c.args.snapshot.now (omega (arith, size, past)) in
    rw c.from_residual.ensures none

pub returns-in_err-relations-clause-none : goal.returns-in_err-relations-clause-none
returns-in_err-relations-clause-none c =
    let size : length c.args.snapshot.now.relations ≡ 96 = search rules in
    let past = c.in_err-relations.ensures.lookup.0 in
    let none = many_relations c.args.snapshot.now (omega (arith, size, past)) in
    rw c.from_residual-in_err-relations.ensures none

pub returns-in_err-list-clause-none : goal.returns-in_err-list-clause-none
returns-in_err-list-clause-none c =
    let s = c.args.snapshot.now in
    let sizes : (length s.capacities ≡ 48) × (length s.relations ≡ 96) = search rules in
    let caps = c.in_ok-capacities.ensures.lookup.0 in
    let rels = c.in_ok-relations.ensures.lookup.0 in
    let none = misfitting s (omega (arith, sizes.0, caps.1)) (omega (arith, sizes.1, rels.1)) c.in_ok-capacities.capacities.now c.in_ok-relations.relations.now
    (omega (arith, caps.3)) (omega (arith, rels.3)) (rels.2 ∙ front s.relation_count s.relations) c.in_err-list.ensures.none in
    rw c.from_residual-in_err-list.ensures none

pub returns-in_err-opened-clause-none : goal.returns-in_err-opened-clause-none
returns-in_err-opened-clause-none c =
    let s = c.args.snapshot.now in
    let sizes : (length s.capacities ≡ 48) × (length s.relations ≡ 96) = search rules in
    let caps = c.in_ok-capacities.ensures.lookup.0 in
    let rels = c.in_ok-relations.ensures.lookup.0 in
    let none = many_open s (omega (arith, sizes.0, caps.1)) (omega (arith, sizes.1, rels.1)) (search rules) in
    rw c.from_residual-in_err-opened.ensures none

pub returns-clause-some : goal.returns-clause-some
returns-clause-some c =
    let s = c.args.snapshot.now in
    let sizes : (length s.capacities ≡ 48) × (length s.relations ≡ 96) = search rules in
    let caps = c.in_ok-capacities.ensures.lookup.0 in
    let rels = c.in_ok-relations.ensures.lookup.0 in
    let few : s.opened ≤ 32 = search rules in
    is_sound s (omega (arith, sizes.0, caps.1)) (omega (arith, sizes.1, rels.1)) c.in_ok-capacities.capacities.now c.in_ok-relations.relations.now
    (omega (arith, caps.3)) (omega (arith, rels.3)) (rels.2 ∙ front s.relation_count s.relations) c.in_ok-list.ensures.some few

pub returns-clause-state : goal.returns-clause-state
returns-clause-state c =
    let s = c.args.snapshot.now in
    let sizes : (length s.capacities ≡ 48) × (length s.relations ≡ 96) = search rules in
    let caps = c.in_ok-capacities.ensures.lookup.0 in
    let rels = c.in_ok-relations.ensures.lookup.0 in
    let net = c.in_ok-list.ensures.net in
    let contexts = c.new-2.ensures.contexts ∙ ap (λ (n : Net). length n.caps) net ∙ omega (arith, caps.3) in
    let related = c.new-2.ensures.relations ∙ ap (λ (n : Net). n.rels) net ∙ ap relations_of (rels.2 ∙ front s.relation_count s.relations) in
    let few : s.opened ≤ 32 = search rules in
    let sound = is_sound s (omega (arith, sizes.0, caps.1)) (omega (arith, sizes.1, rels.1)) c.in_ok-capacities.capacities.now c.in_ok-relations.relations.now
    (omega (arith, caps.3)) (omega (arith, rels.3)) (rels.2 ∙ front s.relation_count s.relations) c.in_ok-list.ensures.some few in
    stands s c.new-2.result c.in_ok-opened.opened contexts related sound c.in_ok-opened.ensures.some
