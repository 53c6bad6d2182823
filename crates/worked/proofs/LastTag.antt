-- The definitions compute these numbers. Assumes nothing.
use mathlib.Core.Path.{refl}
use Rattle.parts.specs.Number.{number_at}
use Rattle.primer.specs.Primer.{later, last_of, entries_in, entry_of}
use Rattle.worked.specs.LastTag.{LastTag}

pub last-tag : LastTag
unfolding number_at later last_of entries_in entry_of
last-tag = (refl, refl, refl, refl, refl)
