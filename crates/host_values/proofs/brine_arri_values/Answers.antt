-- `host_values::brine_arri_values` puts what is read, and whether it is there.
use mathlib.Core.Path.{refl, sym}
use Rattle.host_values.specs.Values.{found_places}
use Rattle.host_values.proofs.brine_arri_values.Goals as goal

pub returns-in-Some : goal.returns-in-Some
unfolding found_places
returns-in-Some c =
    rw (sym c.frame_of.ensures, sym c.values_of-v.ensures) record { value = refl; out_after = rw c.in-Some.is refl; kind_after = c.put_values.ensures.kind_after; bits_after = c.put_values.ensures.bits_after }

pub returns-in-None : goal.returns-in-None
unfolding found_places
returns-in-None c =
    rw (sym c.frame_of.ensures, sym c.values_of-v.ensures) record { value = refl; out_after = rw c.in-None.is refl; kind_after = c.put_values.ensures.kind_after; bits_after = c.put_values.ensures.bits_after }
