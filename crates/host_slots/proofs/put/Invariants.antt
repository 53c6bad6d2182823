-- `host_slots::put` has put the kind and the bits of as many values as it took turns.
use Prim.Native.Nat.{ℕ, ◌<◌}
use mathlib.Core.Path.{◌≡◌}
use lib.ListN.{get_or, length}
use Rattle.host_slots.specs.Slots.{nothing}
use Rattle.host_slots.proofs.put.Given as goal

abbrev pub invariant-loop-i : goal.invariant-loop-i
invariant-loop-i l =
    (length l.kind ≡ 32)
    × (length l.bits ≡ 32)
    × ((j : ℕ) → j < l.i → (get_or l.kind j 0 ≡ (get_or l.slots j nothing).kind) × (get_or l.bits j 0 ≡ (get_or l.slots j nothing).bits))
