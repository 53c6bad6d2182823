-- `index_layouts::turn` meets its contract. The loop's invariant: the bytes written are the first of the turned ones.
use Prim.Native.Nat.{◌/◌}
use mathlib.Core.Path.{◌≡◌, refl, ◌∙◌}
use native.Mathlib.Omega.{arith}
use lib.ListN.{length}
use Rattle.index_layouts.proofs.Places.{came_in}
use Rattle.index_layouts.proofs.Turns.{turned_more, turn_short, turn_done, turned_none}
use Rattle.index_layouts.proofs.turn.Goals as goal

pub returns-then-out-n : goal.returns-then-out-n
returns-then-out-n c = let a = c.args in turn_short a.to a.s.now a.out.now (omega arith)

pub loop-i-init : goal.loop-i-init
loop-i-init c = let a = c.args in turned_none a.to a.s.now a.out.now

pub bounds-s-came_from : goal.bounds-s-came_from
bounds-s-came_from c =
    let a = c.args in
    omega (arith, c.came_from.ensures, came_in a.to (length a.s.now / 16) c.loop-i.i (length a.s.now) (omega arith) (omega arith))

pub loop-i-preserved : goal.loop-i-preserved
loop-i-preserved c =
    let a = c.args in
    let m = c.loop-i in
    rw (m.invariant, c.came_from.ensures) (turned_more a.to a.s.now a.out.now m.i)

pub returns : goal.returns
returns c =
    let a = c.args in
    let m = c.loop-i in
    let z : m.i ≡ length a.s.now = omega arith in
    let d = turn_done a.to a.s.now a.out.now (omega arith) in
    (d.0, (m.invariant ∙ rw z refl) ∙ d.1)
