-- `index::Asked::of_few` meets its contract. The loop's invariant: so many of the records passed do.
use Prim.Native.Nat.{◌≤◌}
use mathlib.Core.Path.{◌≡◌}
use Rattle.index.specs.Places.{entries}
use Rattle.index.specs.Lists.{of_few, starts_by}
use Rattle.index.proofs.Asked.of_few.Given as goal

abbrev pub invariant-loop-i : goal.invariant-loop-i
invariant-loop-i l =
    let r = l.self.records in
    (l.k ≤ l.i) × (l.k ≡ of_few (starts_by (entries r.slots.layout r.slots.down r.slots.room r.bytes.now r.slots.used) l.self.pos) l.at l.i)
