-- `lengths::shortest` meets its contract: each return is one case of the definition.
use mathlib.Core.Path.{sym}
use native.Mathlib.Omega.{arith}
use Rattle.lengths.proofs.Laws.{shortest_eighty, shortest-two, shortest-more}
use Rattle.lengths.proofs.shortest.Goals as goal

pub returns-then-n-eq0 : goal.returns-then-n-eq0
returns-then-n-eq0 c = sym (shortest_eighty _ _ _ (omega arith))

pub returns-then-n-eq1 : goal.returns-then-n-eq1
returns-then-n-eq1 c = sym (shortest-two _ _ _ (λ e. omega arith) (omega arith))

pub returns : goal.returns
returns c =
    rw c.requires.value_value (sym (shortest-more _ _ _ _ (λ i. (c.type_inv.s i).fits) (λ e. omega arith) (omega arith)))
