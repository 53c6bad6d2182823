-- `host_walk::put` writes each place of a KLV and its cursor.
use mathlib.Core.Path.{refl}
use Rattle.host_walk.proofs.put.Goals as goal

pub returns : goal.returns
returns c = rw c.mark-shortest.ensures refl
