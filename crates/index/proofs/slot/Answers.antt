-- `index::slot` meets its contract: by the end that it counts from.
use mathlib.Core.Path.{refl}
use native.Mathlib.Omega.{arith}
use Rattle.index.proofs.slot.Goals as goal

pub returns-then-down : goal.returns-then-down
returns-then-down c = rw c.if-down.true (refl, omega arith)

pub returns-else-down : goal.returns-else-down
returns-else-down c = rw c.if-down.false (refl, omega arith)
