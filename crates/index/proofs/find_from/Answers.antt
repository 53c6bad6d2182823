-- `index::find_from` meets its contract.
use native.Mathlib.Omega.{arith}
use Rattle.index.proofs.Laws.{from-short, from-over, from_in}
use Rattle.index.proofs.find_from.Goals as goal

pub returns-then-b-slots : goal.returns-then-b-slots
returns-then-b-slots c = let a = c.args in from-short a.slots.layout a.slots.down a.slots.room a.b.now a.slots.used a.pos (omega arith)

pub returns-then-slots : goal.returns-then-slots
returns-then-slots c =
    let a = c.args in
    from-over a.slots.layout a.slots.down a.slots.room a.b.now a.slots.used a.pos (omega (arith, c.if-b-slots.false)) c.if-slots.true

pub returns : goal.returns
returns c =
    let a = c.args in
    rw c.look.ensures (from_in a.slots.layout a.slots.down a.slots.room a.b.now a.slots.used a.pos (omega (arith, c.if-b-slots.false)) (omega (arith, c.if-slots.false)))
