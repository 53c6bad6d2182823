-- `index::Asked::count` meets its contract. The loop's invariant: narrowing what is left gives the whole's answer.
use Prim.Native.Nat.{ℕ, ◌/◌}
use mathlib.Core.Path.{refl, sym, ◌∙◌}
use mathlib.Core.Bool.{Bool}
use native.Mathlib.Nat.{mul-le-mul_right}
use native.Mathlib.Omega.{arith}
use Rattle.index.specs.Places.{entries}
use Rattle.index.specs.Lists.{starts_by}
use Rattle.index.proofs.Narrowing.{turn, narrow-few}
use Rattle.index.proofs.Laws.{entries-length}
use Rattle.index.proofs.Asked.count.Goals as goal

pub loop-n-init : goal.loop-n-init
loop-n-init c =
    let r = c.args.self.records in
    (omega arith, rw (entries-length r.slots.layout r.slots.down r.slots.room r.bytes.now r.slots.used) refl)

pub loop-n-preserved : goal.loop-n-preserved
loop-n-preserved c =
    let r = c.args.self.records in
    let m = c.loop-n in
    let k = c.of_three.ensures in
    let t : ℕ → Bool = starts_by (entries r.slots.layout r.slots.down r.slots.room r.bytes.now r.slots.used) c.args.self.pos in
    (omega (arith, mul-le-mul_right (m.n / 4) k.1), m.invariant.1 ∙ rw k.0 (turn t r.slots.used m.at m.n (omega arith) (omega arith)))

pub returns : goal.returns
returns c =
    let r = c.args.self.records in
    let m = c.loop-n in
    let k = c.of_few.ensures in
    let t : ℕ → Bool = starts_by (entries r.slots.layout r.slots.down r.slots.room r.bytes.now r.slots.used) c.args.self.pos in
    (sym (m.invariant.1 ∙ narrow-few t r.slots.used m.at m.n (omega arith) ∙ rw k.0 refl), omega (arith, k.1))
