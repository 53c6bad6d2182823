-- Bytes that were written at the start of a room are its first ones. Assumes nothing.
use Prim.Native.Nat.{ℕ, ◌≤◌}
use mathlib.Core.Path.{◌≡◌, ap, ◌∙◌}
use mathlib.Core.List.{List}
use native.Mathlib.Omega.{arith}
use lib.ListN.{length, take}
use Rattle.written_numbers.specs.Number.{bytes_of, placed}
use Rattle.written_numbers.proofs.Stores.{stored, stands_part}
use Rattle.written_numbers.proofs.Written.{bytes-length, placed-there}

pub written : (n v : ℕ) (o b : List ℕ) → n ≤ length o → b ≡ placed o 0 (bytes_of n v) → take n b ≡ bytes_of n v
written n v o b h e =
    ap (take n) (e ∙ placed-there o 0 n v (omega arith))
    ∙ rw (bytes-length n v) at (stands_part (stored (bytes_of n v) o 0 (omega (arith, bytes-length n v))))
