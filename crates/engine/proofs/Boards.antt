-- Undo and settling, on any board.
-- Assumes nothing.
use mathlib.Core.Path.{◌≡◌, refl, ap}
use mathlib.Core.List.{List, [], ◌∷◌, ◌++◌}
use Rattle.model.specs.Machine.{Entry, Board, requests, without_firings, undo_from, settle, reply}
use Rattle.model.specs.declared.Call.TheVariants.{Undo, Settle}
use Rattle.model.specs.declared.Refusal.TheVariants.{NothingOpen}
use Rattle.model.specs.declared.Verdict.TheVariants.{Granted, Refused}

-- nothing is open
pub undo_none : (b : Board) → b.opened ≡ [] → reply b Undo ≡ record { answer = without_firings (Refused NothingOpen); board = b }
unfolding reply undo_from
undo_none b p = ap (undo_from b) p

-- the newest request and the rest of the open list
pub undo_some : (b : Board) (last : Entry) (rest : List Entry) → b.opened ≡ last ∷ rest
    → reply b Undo
    ≡ record {
      answer = without_firings Granted;
      board = record { net = b.net; counts = last.before; settled = b.settled; opened = rest };
    }
unfolding reply undo_from
undo_some b last rest p = ap (undo_from b) p

pub settle_all : (b : Board)
    → reply b Settle
    ≡ record {
      answer = without_firings Granted;
      board = record { net = b.net; counts = b.counts; settled = requests b.opened ++ b.settled; opened = [] };
    }
unfolding reply settle
settle_all b = refl
