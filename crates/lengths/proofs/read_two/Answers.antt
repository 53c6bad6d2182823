-- `lengths::read_two` meets its contract: each return is one case of the definition.
use mathlib.Core.Path.{sym}
use native.Mathlib.Omega.{arith}
use Rattle.lengths.proofs.Laws.{held_read, held_cut}
use Rattle.lengths.proofs.read_two.Goals as goal

pub returns-then-s-lt2 : goal.returns-then-s-lt2
returns-then-s-lt2 c = sym (held_cut _ _ _ _ (omega arith))

pub returns-then-s-at : goal.returns-then-s-at
returns-then-s-at c = sym (held_cut _ _ _ _ (omega arith))

pub returns : goal.returns
returns c =
    sym (held_read _ _ _ _ (λ i. (c.type_inv.s i).fits) (omega arith) (omega arith) _ c.number.ensures)
