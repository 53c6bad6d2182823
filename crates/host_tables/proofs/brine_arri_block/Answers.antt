-- `host_tables::brine_arri_block` answers each case of the block.
use mathlib.Core.Path.{refl, sym}
use Rattle.host_tables.specs.Places.{block_places}
use Rattle.host_tables.proofs.brine_arri_block.Goals as goal

pub returns-in-Some : goal.returns-in-Some
unfolding block_places
returns-in-Some c = record { value = refl; out_after = rw (sym c.find.ensures, c.in-Some.is) refl }

pub returns-in-None : goal.returns-in-None
unfolding block_places
returns-in-None c = record { value = refl; out_after = rw (sym c.find.ensures, c.in-None.is) refl }
