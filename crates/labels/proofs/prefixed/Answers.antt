-- `labels::prefixed` meets its contract: the 13 bytes are three numbers.
use mathlib.Core.Path.{refl}
use native.Mathlib.Nat.{add-zero}
use native.Mathlib.Omega.{arith}
use Rattle.parts.specs.Bytes.{Bytes}
use Rattle.labels.specs.Label.{partition_prefix}
use Rattle.labels.proofs.Partitions.{begins_numbers, prefix_bytes}
use Rattle.labels.proofs.prefixed.Goals as goal

pub returns : goal.returns
returns c =
    let b : Bytes c.args.s.now = λ i. (c.type_inv.s i).fits in
    rw (c.same_bytes.ensures, c.same_bytes-2.ensures, c.same_bytes-3.ensures) (rw add-zero at (begins_numbers partition_prefix c.args.s.now c.args.at b prefix_bytes refl (omega arith)))
