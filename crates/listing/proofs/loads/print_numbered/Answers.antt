use Rattle.std.proofs.Common.{rules, tests, OnOk, ◌≡◌, ◌∙◌, ap, ℕ, length, List, [], ◌∷◌, ◌++◌, decimal}
use Rattle.std.specs.Io.KnownBytes.{Appends}
use Rattle.std.proofs.lemmas.Iterator.{YieldsList-from_slice}
use Rattle.std.proofs.lemmas.Iterator.Consumers.{fold_from_yields_List}
use Rattle.model.specs.Sets.{concat_map}
use Rattle.model.specs.Image.{relation_from}
use Rattle.model.specs.declared.Relation.{Relation}
use Rattle.engine.specs.View.{net_of}
use Rattle.listing.specs.Hash.{hashed}
use Rattle.listing.specs.Loads.{load_hash, triple}
use Rattle.listing.proofs.Steps.{hashed_triples}
use Rattle.listing.proofs.loads.print_numbered.Goals as goal

pub returns : goal.returns
returns g c =
    let caps : c.hash-capacities.result ≡ hashed 0 (net_of c.args.engine.now).caps = c.hash-capacities.ensures ∙ ap (hashed 0) c.capacities.ensures in
    let list : c.fold-list.result ≡ hashed c.hash-capacities.result (concat_map triple (net_of c.args.engine.now).rels) =
    fold_from_yields_List _ (λ s xs. hashed s (triple (relation_from xs))) c.hash-capacities.result c.fold-list.result c.fold-list.ensures.ran
    (YieldsList-from_slice c.relations.result.now cc) (λ a x b q k. search (rules, tests))
    ∙ hashed_triples c.hash-capacities.result c.relations.result.now
    ∙ ap (λ (rs : List Relation). hashed c.hash-capacities.result (concat_map triple rs)) c.relations.ensures in
    let all : c.hash.result ≡ load_hash (net_of c.args.engine.now) c.args.records.now =
    c.hash.ensures
    ∙ ap (λ (h : ℕ). hashed h c.args.records.now) (list ∙ ap (λ (h : ℕ). hashed h (concat_map triple (net_of c.args.engine.now).rels)) caps) in
    let text : List ℕ =
    decimal c.args.number
    ++ (32 ∷ (decimal c.contexts.result
    ++ (32 ∷ (decimal c.relation_count.result
    ++ (32 ∷ (decimal (length c.args.records.now)
    ++ (32 ∷ (decimal c.hash.result
    ++ (10 ∷ []))))))))) in
    let wrote : OnOk c.writeln.result (Appends (g.W.Write.contents c.args.out.now) (g.W.Write.contents c.writeln.new.self) text) = c.writeln.ensures.bytes in
    rw (c.contexts.ensures.contexts, c.relation_count.ensures, all) at wrote
