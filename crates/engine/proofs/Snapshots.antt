-- When a snapshot is sound, and what it stands for then.
-- Assumes nothing.
use Rattle.std.proofs.Common.{◌≡◌, ℕ, ◌-◌, ◌<◌, ◌≤◌, Bool, true, false, ◌&&◌, ◌||◌, not, cond, List, [], length, map, take, refl, sym, ap, ap₂, ◌∙◌, arith}
use lib.Dec.{leb}
use Rattle.std.specs.List.{slice_range}
use borrow.Author.Tests.{lt-leb, le-leb, le-ltb}
use Rattle.std.proofs.Math.Bool.{and-false}
use Rattle.std.proofs.lemmas.List.{length-map, length-take}
use Rattle.model.specs.Image.{relation_from}
use Rattle.model.specs.Sets.{any}
use Rattle.model.specs.Relations.{empty_net, misfit}
use Rattle.model.specs.Machine.{State, fresh, zeros, board_at}
use Rattle.model.specs.declared.Request.{Request}
use Rattle.model.specs.declared.Relation.{Relation}
use Rattle.relations.specs.Sizes.{exceeds}
use Rattle.relations.specs.Lists.{is_fitting}
use Rattle.relations.specs.Reading.{relations_of}
use Rattle.net.specs.Tables.{relations_in}
use Rattle.net.specs.Markings.{counts_in}
use Rattle.net.specs.Nets.{contexts_of, rels_of}
use Rattle.net.specs.declared.net.Net.{Net}
use Rattle.engine.specs.Open.{newest, entries}
use Rattle.engine.specs.View.{entry_of, state}
use Rattle.engine.specs.Snapshots.{sound, state_in, net_in, counts_of, opened_in}
use Rattle.engine.specs.declared.engine.Engine.{Engine}
use Rattle.engine.specs.declared.open_list.OpenList.{OpenList}
use Rattle.engine.specs.declared.snapshot.Snapshot.{Snapshot}

-- a part from the start on
pub front : {A : Type 0} (n : ℕ) (xs : List A) → slice_range xs 0 n ≡ take n xs
front n xs =
    let all : n - 0 ≡ n = omega arith in
    ap (λ (k : ℕ). take k xs) all

-- a net has no more relations than there is room for
pub few_related : (net : Net) (triples : List (List ℕ)) → relations_of triples ≡ rels_of net → length triples ≤ 96
few_related net triples e =
    omega (arith, length-map triples relation_from, ap (λ (rs : List Relation). length rs) e, length-map (take net.relation_count net.relations) relation_from, length-take net.relation_count net.relations, net.few_relations)

module _ (s : Snapshot) where
  -- the four tests
  abbrev by : (contexts relations few misfits : Bool) → Bool
  by contexts relations few misfits = contexts && relations && few && not misfits

  abbrev misfits : Bool
  misfits = any (misfit s.contexts) (relations_in s.relation_count s.relations)

  abbrev few : Bool
  few = leb s.opened 32

  sound_by : {contexts relations : Bool} → leb s.contexts 48 ≡ contexts → leb s.relation_count 96 ≡ relations → sound s ≡ by contexts relations few misfits
  unfolding sound
  sound_by p q = λ i. by (p i) (q i) few misfits

  pub many_contexts : 48 < s.contexts → sound s ≡ false
  many_contexts h = sound_by (lt-leb s.contexts 48 h) refl

  pub many_relations : 96 < s.relation_count → sound s ≡ false
  many_relations h =
      sound_by refl (lt-leb s.relation_count 96 h) ∙ ap (λ (b : Bool). b && few && not misfits) (and-false (leb s.contexts 48))

  module _ (contexts : s.contexts ≤ 48) (relations : s.relation_count ≤ 96) where
    within : sound s ≡ few && not misfits
    within = sound_by (le-leb s.contexts 48 contexts) (le-leb s.relation_count 96 relations)

    pub many_open : 32 < s.opened → sound s ≡ false
    many_open h = within ∙ ap (λ (b : Bool). b && not misfits) (lt-leb s.opened 32 h)

    module _ (caps : List ℕ) (triples : List (List ℕ)) (sized : length caps ≡ s.contexts) (counted : length triples ≡ s.relation_count)
        (taken : triples ≡ take s.relation_count s.relations) where
      fitting : is_fitting caps triples ≡ not misfits
      fitting =
          let room : exceeds s.contexts s.relation_count ≡ false = ap₂ (λ (a b : Bool). a || b) (le-ltb 48 s.contexts contexts) (le-ltb 96 s.relation_count relations) in
          ap₂ (λ (n r : ℕ). not (exceeds n r || any (misfit n) (relations_of triples))) sized counted
          ∙ ap (λ (ts : List (List ℕ)). not (exceeds s.contexts s.relation_count || any (misfit s.contexts) (relations_of ts))) taken
          ∙ ap (λ (b : Bool). not (b || misfits)) room

      pub misfitting : is_fitting caps triples ≡ false → sound s ≡ false
      misfitting e = within ∙ ap (λ (b : Bool). few && b) (sym fitting ∙ e) ∙ and-false few

      pub is_sound : is_fitting caps triples ≡ true → s.opened ≤ 32 → sound s ≡ true
      is_sound e h = within ∙ ap₂ (λ (a b : Bool). a && b) (le-leb s.opened 32 h) (sym fitting ∙ e)

  -- an engine of a sound one's net, its counts and its open list
  module _ (net : Net) (o : OpenList) (contexts : contexts_of net ≡ s.contexts) (rels : rels_of net ≡ relations_in s.relation_count s.relations) where
    abbrev engine : Engine
    engine = record { net = net; capacities = s.capacities; counts = s.counts; opened = o; tally = s.tally }

    pub stands : sound s ≡ true → entries o ≡ newest s.requests s.markings s.first s.opened → (settled : List Request) → state engine settled ≡ state_in s settled
    unfolding state_in net_in counts_of opened_in
    stands e same settled i =
        record {
          board =
              record {
                net = ((λ j. record { caps = take (contexts j) s.capacities; rels = rels j }) ∙ sym (ap (λ (b : Bool). cond b (record { caps = take s.contexts s.capacities; rels = relations_in s.relation_count s.relations }) empty_net) e)) i;
                counts = sym (ap (λ (b : Bool). cond b (counts_in s.counts) zeros) e) i;
                settled = settled;
                opened = (ap (map entry_of) same ∙ sym (ap (λ (b : Bool). cond b (map entry_of (newest s.requests s.markings s.first s.opened)) []) e)) i;
              };
          tally = s.tally;
        }

    pub sound_of : s.relation_count ≤ 96 → s.opened ≡ o.len → sound s ≡ true
    sound_of related many =
        within (omega (arith, contexts, net.few_contexts)) related
        ∙ ap₂ (λ (a b : Bool). a && not b) (le-leb s.opened 32 (omega (arith, many, o.few)))
        (ap₂ (λ (n : ℕ) (rs : List Relation). any (misfit n) rs) (sym contexts) (sym rels) ∙ net.fits)

  -- the engine of the net without contexts, with the totals of one that is not
  pub stands_for_none : sound s ≡ false → (e : Engine) → state e [] ≡ fresh empty_net → (settled : List Request)
      → state (record { net = e.net; capacities = e.capacities; counts = e.counts; opened = e.opened; tally = s.tally }) settled ≡ state_in s settled
  unfolding board_at state_in net_in counts_of opened_in
  stands_for_none unsound e none settled i =
      record {
        board =
            record {
              net = (ap (λ (t : State). t.board.net) none ∙ sym (ap (λ (b : Bool). cond b (record { caps = take s.contexts s.capacities; rels = relations_in s.relation_count s.relations }) empty_net) unsound)) i;
              counts = (ap (λ (t : State). t.board.counts) none ∙ sym (ap (λ (b : Bool). cond b (counts_in s.counts) zeros) unsound)) i;
              settled = settled;
              opened = (ap (λ (t : State). t.board.opened) none ∙ sym (ap (λ (b : Bool). cond b (map entry_of (newest s.requests s.markings s.first s.opened)) []) unsound)) i;
            };
        tally = s.tally;
      }
