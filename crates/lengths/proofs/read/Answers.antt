-- `lengths::read` meets its contract: each return is one case of the definition.
use mathlib.Core.Path.{sym, ◌∙◌}
use native.Mathlib.Omega.{arith}
use Rattle.parts.proofs.Parts.{number_read}
use Rattle.lengths.proofs.Laws.{past, short_read, no_length, more, held_read, held_cut}
use Rattle.lengths.proofs.read.Goals as goal

pub returns-then-s-at : goal.returns-then-s-at
returns-then-s-at c = sym (past _ _ (omega arith))

pub returns-then-first-lt128 : goal.returns-then-first-lt128
returns-then-first-lt128 c = rw c.from.ensures (sym (short_read _ _ (omega arith) (omega arith)))

pub returns-then-first-gt136 : goal.returns-then-first-gt136
returns-then-first-gt136 c = sym (no_length _ _ (omega arith) (omega arith))

pub returns-then-s-from : goal.returns-then-s-from
returns-then-s-from c = sym (more _ _ (omega arith) (omega arith) (omega arith) ∙ held_cut _ _ _ _ (omega arith))

pub shortest-requires : goal.shortest-requires
shortest-requires c =
    record { first_value = omega arith; n_in_bounds = omega arith; value_value = c.number-value.ensures ∙ number_read _ _ _ (λ i. (c.type_inv.s i).fits) (omega arith) (omega arith) }

pub returns : goal.returns
returns c =
    rw c.shortest.ensures
    (sym
    (more _ _ (omega arith) (omega arith) (omega arith)
    ∙ held_read _ _ _ _ (λ i. (c.type_inv.s i).fits) (omega arith) (omega arith) _ c.number-value.ensures))
