-- What a snapshot stands for: the state of an engine. Every value has a reading.
-- Left to the program: what stands in a slot that holds no open request, the capacities behind the last context, and the relations behind the
-- last one. No reading below depends on these.
-- Assumes nothing.
use Rattle.std.specs.Prelude.{Bool, ◌&&◌, not, cond, List, [], leb, map, take}
use Rattle.model.specs.Sets.{any}
use Rattle.model.specs.Relations.{Net, empty_net, misfit}
use Rattle.model.specs.Image.{edition_1}
use Rattle.model.specs.Machine
use Rattle.model.specs.Machine.{Counts, State, zeros, open_limit}
use Rattle.model.specs.declared.Request.{Request}
use Rattle.net.specs.Markings.{counts_in}
use Rattle.net.specs.Tables.{relations_in}
use Rattle.engine.specs.Open.{newest}
use Rattle.engine.specs.View.{entry_of}
use Rattle.engine.specs.declared.snapshot.Snapshot.{Snapshot}

-- Contexts, relations and open requests are no more than there is room for, and each relation fits the contexts.
unfoldable pub sound : Snapshot → Bool
sound s =
    leb s.contexts edition_1.max_contexts
    && leb s.relation_count edition_1.max_relations
    && leb s.opened open_limit
    && not (any (misfit s.contexts) (relations_in s.relation_count s.relations))

-- The parts of the state. A snapshot that is not sound stands for the empty net, with nothing open.
unfoldable pub net_in : Snapshot → Net
net_in s = cond (sound s) (record { caps = take s.contexts s.capacities; rels = relations_in s.relation_count s.relations }) empty_net

unfoldable pub counts_of : Snapshot → Counts
counts_of s = cond (sound s) (counts_in s.counts) zeros

unfoldable pub opened_in : Snapshot → List Machine.Entry
opened_in s = cond (sound s) (map entry_of (newest s.requests s.markings s.first s.opened)) []

-- the state that a snapshot stands for, with this settled list
unfoldable pub state_in : Snapshot → List Request → State
state_in s settled =
    record {
      board = record { net = net_in s; counts = counts_of s; settled = settled; opened = opened_in s };
      tally = s.tally;
    }
