-- `host_values::brine_of_dynamic` puts what is read.
use mathlib.Core.Path.{refl, sym}
use Rattle.host_values.proofs.brine_of_dynamic.Goals as goal

pub returns : goal.returns
returns c = rw (sym c.of_dynamic-f.ensures) record { value = refl; kind_after = c.put_frame.ensures.kind_after; bits_after = c.put_frame.ensures.bits_after }
