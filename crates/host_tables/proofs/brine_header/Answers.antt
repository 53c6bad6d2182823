-- `host_tables::brine_header` answers each case of the header part.
use mathlib.Core.Path.{refl, sym}
use Rattle.host_tables.specs.Places.{header_places}
use Rattle.host_tables.proofs.brine_header.Goals as goal

pub returns-in-Some : goal.returns-in-Some
unfolding header_places
returns-in-Some c = record { value = refl; out_after = rw (sym c.find-h.ensures, c.in-Some.is) refl }

pub returns-in-None : goal.returns-in-None
unfolding header_places
returns-in-None c = record { value = refl; out_after = rw (sym c.find-h.ensures, c.in-None.is) refl }
