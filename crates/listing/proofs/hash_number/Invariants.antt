-- What is hashed so far, with the bytes of the rest, gives the hash of all.
use Rattle.std.specs.Prelude.{◌≡◌, ◌-◌}
use Rattle.model.specs.Image.{bytes}
use Rattle.listing.specs.Hash.{hashed}
use Rattle.listing.proofs.hash_number.Given as goal

abbrev pub invariant-loop : goal.invariant-loop
invariant-loop l = hashed l.sum (bytes (l.k - l.counter) l.rest) ≡ hashed l.h (bytes l.k l.x)
