-- `host_tables::brine_payload` answers what the payload's writer says, and keeps what it wrote.
use mathlib.Core.Path.{refl, sym}
use Rattle.host_tables.specs.Places.{payload_places}
use Rattle.host_tables.proofs.brine_payload.Goals as goal

pub returns-in-Ok : goal.returns-in-Ok
unfolding payload_places
returns-in-Ok c =
    rw (sym c.payload_into-p.ensures.result_value, c.in-Ok.is) record { value = refl; out_after = refl; payload_after = c.payload_into-p.ensures.out_after }

pub returns-in-Err : goal.returns-in-Err
unfolding payload_places
returns-in-Err c =
    rw (sym c.payload_into-p.ensures.result_value, c.in-Err.is) record { value = refl; out_after = refl; payload_after = c.payload_into-p.ensures.out_after }
