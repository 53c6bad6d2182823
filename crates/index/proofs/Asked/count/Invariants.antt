-- `index::Asked::count` meets its contract. The loop's invariant: narrowing what is left gives the whole's answer.
use Prim.Native.Nat.{◌+◌, ◌≤◌}
use mathlib.Core.Path.{◌≡◌}
use Rattle.index.specs.Places.{entries}
use Rattle.index.specs.Lists.{narrow, starts_by, count_in}
use Rattle.index.proofs.Asked.count.Given as goal

abbrev pub invariant-loop-n : goal.invariant-loop-n
invariant-loop-n l =
    let r = l.self.records in
    let es = entries r.slots.layout r.slots.down r.slots.room r.bytes.now r.slots.used in
    (l.at + l.n ≤ r.slots.used) × (count_in es l.self.pos ≡ narrow (starts_by es l.self.pos) r.slots.used l.at l.n)

abbrev pub decreases-loop-n : goal.decreases-loop-n
decreases-loop-n l = l.n
