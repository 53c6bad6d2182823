-- `host_records::put_record` writes each place of a record.
use mathlib.Core.Path.{refl}
use Rattle.host_records.proofs.put_record.Goals as goal

pub returns : goal.returns
returns c = rw c.mark-shortest.ensures refl
