-- `index::Asked::of_few` meets its contract. The loop's invariant: so many of the records passed do.
use native.Mathlib.Omega.{arith}
use native.Mathlib.Numerals.{add-one}
use Rattle.index.specs.Places.{entries}
use Rattle.index.specs.Lists.{starts_by}
use Rattle.index.proofs.Narrowing.{few-none, few-more}
use Rattle.index.proofs.Asked.of_few.Goals as goal

pub loop-i-init : goal.loop-i-init
loop-i-init c =
    let r = c.args.self.records in
    (omega arith, few-none (starts_by (entries r.slots.layout r.slots.down r.slots.room r.bytes.now r.slots.used) c.args.self.pos) c.args.at)

pub loop-i-preserved : goal.loop-i-preserved
loop-i-preserved c =
    let r = c.args.self.records in
    let l = c.loop-i in
    let k = c.starts_by-k.ensures in
    (omega (arith, k.1), rw (l.invariant.1, k.0, add-one) (few-more (starts_by (entries r.slots.layout r.slots.down r.slots.room r.bytes.now r.slots.used) c.args.self.pos) c.args.at l.i))
