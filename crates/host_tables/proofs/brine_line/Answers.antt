-- `host_tables::brine_line` answers what the step says.
use mathlib.Core.Path.{refl, sym}
use Rattle.host_tables.specs.Places.{line_places}
use Rattle.host_tables.proofs.brine_line.Goals as goal

pub returns-in-Some : goal.returns-in-Some
unfolding line_places
returns-in-Some c = record { value = refl; out_after = rw (sym c.in-Some.ensures) refl }

pub returns-in-None : goal.returns-in-None
unfolding line_places
returns-in-None c = record { value = refl; out_after = rw (sym c.in-None.ensures) refl }
