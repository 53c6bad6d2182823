-- `primer_table::find` meets its contract.
use Prim.Native.Nat.{◌+◌, ◌≤◌}
use mathlib.Core.Path.{sym, ◌∙◌}
use native.Mathlib.Omega.{arith}
use lib.ListN.{length, get_or}
use Rattle.primer.specs.LastWins.{place}
use Rattle.primer.proofs.Laws.{entries_fit}
use Rattle.primer_table.proofs.Laws.{held_past, held_none, held_other, held_label}
use Rattle.primer_table.proofs.find.Goals as goal
use Rattle.primer_table.proofs.find.Goals.{Else-tag_of-tag}

-- the entry is whole
whole : (c : goal.Else-tag_of-tag) → place (get_or c.args.table.now c.args.tag 0) + 18 ≤ length c.args.s.now
whole c = omega (arith, entries_fit c.args.s.now (get_or c.args.table.now c.args.tag 0) (omega arith))

pub returns-then-table-place : goal.returns-then-table-place
returns-then-table-place c = sym (held_past _ _ _ (omega arith))

pub returns-then-entries-i : goal.returns-then-entries-i
returns-then-entries-i c = sym (held_none _ _ _ (omega arith) (omega arith))

pub returns-then-tag_of-tag : goal.returns-then-tag_of-tag
returns-then-tag_of-tag c = sym (held_other _ _ _ (omega arith) (omega arith) (λ e. c.if-tag_of-tag.true (c.tag_of.ensures.value ∙ e)))

pub overflow_mul-result : goal.overflow_mul-result
overflow_mul-result c = omega (arith, whole (goal.at.overflow_mul-result c).Else-tag_of-tag)

pub overflow_add-result : goal.overflow_add-result
overflow_add-result c = omega (arith, whole (goal.at.overflow_add-result c).Else-tag_of-tag)

pub overflow_add-result-2 : goal.overflow_add-result-2
overflow_add-result-2 c = omega (arith, whole (goal.at.overflow_add-result-2 c).Else-tag_of-tag)

pub returns : goal.returns
returns c = sym (held_label _ _ _ (omega arith) (omega arith) (sym c.tag_of.ensures.value ∙ c.if-tag_of-tag.false))
