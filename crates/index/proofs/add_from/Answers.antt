-- `index::add_from` meets its contract.
use mathlib.Core.Path.{refl, ◌∙◌}
use native.Mathlib.Omega.{arith}
use borrow.Author.Tests.{ltb-true}
use Rattle.index.specs.Index.{written}
use Rattle.index.proofs.Laws.{add_from-short, add_from-over, add_from_in, both_true}
use Rattle.index.proofs.add_from.Goals as goal

pub returns-then-b-slots : goal.returns-then-b-slots
unfolding written
returns-then-b-slots c =
    let a = c.args in
    let z = add_from-short a.slots.layout a.slots.down a.slots.room a.b.now a.slots.used a.free a.e (omega arith) in
    (z, rw (← z) refl)

pub returns-then-slots : goal.returns-then-slots
unfolding written
returns-then-slots c =
    let a = c.args in
    let z = add_from-over a.slots.layout a.slots.down a.slots.room a.b.now a.slots.used a.free a.e (omega (arith, c.if-b-slots.false)) c.if-slots.true in
    (z, rw (← z) refl)

pub insert-requires : goal.insert-requires
insert-requires c =
    let a = c.args in
    (omega (arith, c.if-slots.false), omega (arith, c.if-b-slots.false), λ t. ltb-true a.slots.used a.slots.room (both_true a.free _ t))

pub returns : goal.returns
returns c =
    let a = c.args in
    let i = c.insert.ensures in
    let z = i.0 ∙ add_from_in a.slots.layout a.slots.down a.slots.room a.b.now a.slots.used a.free a.e (omega (arith, c.if-b-slots.false)) (omega (arith, c.if-slots.false)) in
    (z, rw z at i.1)
