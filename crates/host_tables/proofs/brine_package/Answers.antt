-- `host_tables::brine_package` answers what the step says.
use mathlib.Core.Path.{refl, sym}
use Rattle.host_tables.specs.Places.{package_places}
use Rattle.host_tables.proofs.brine_package.Goals as goal

pub returns-in-Some : goal.returns-in-Some
unfolding package_places
returns-in-Some c = record { value = refl; out_after = rw (sym c.step-t.ensures, c.in-Some.is) refl }

pub returns-in-None : goal.returns-in-None
unfolding package_places
returns-in-None c = record { value = refl; out_after = rw (sym c.step-t.ensures, c.in-None.is) refl }
