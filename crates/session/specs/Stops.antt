-- Why a talk ended before its input did.
-- Assumes nothing.
use Rattle.std.specs.declared.io.Error.{Error}
use Rattle.session.specs.declared.talking.Stop.{Stop}
use Rattle.session.specs.declared.talking.Stop.TheVariants.{Read, Write}

abbrev pub IsRead : Stop → Type 0
IsRead (Read e) = Unit {0}
IsRead (Write e) = ⊥

-- the error of the read or the write that failed
abbrev pub error_of : Stop → Error
error_of (Read e) = e
error_of (Write e) = e
