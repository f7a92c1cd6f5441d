-- Where a session stands.
-- Assumes nothing.
use Rattle.std.specs.Prelude.{◌≡◌}
use Rattle.engine.specs.View.{Shows}
use Rattle.session.specs.Points.{Point}
use Rattle.session.specs.declared.talking.Session.{Session}

abbrev pub Stands : Session → Point → Type 0
Stands session p = Shows session.engine p.machine × (session.line ≡ p.line)
