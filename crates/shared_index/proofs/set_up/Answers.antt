-- `shared_index::set_up` meets its contract.
use native.Mathlib.Omega.{arith}
use lib.ListN.{length}
use Prim.Native.Nat.{◌/◌}
use Rattle.shared_index.proofs.Laws.{set-over, set-done}
use Rattle.shared_index.proofs.set_up.Goals as goal

pub returns-then-whole-a : goal.returns-then-whole-a
returns-then-whole-a c = let a = c.args in set-over (length a.b.now / 16) a.a a.c (omega arith)

pub returns-then-whole-a-2 : goal.returns-then-whole-a-2
returns-then-whole-a-2 c = let a = c.args in set-over (length a.b.now / 16) a.a a.c (omega arith)

pub returns : goal.returns
returns c = let a = c.args in set-done (length a.b.now / 16) a.a a.c (omega arith)
