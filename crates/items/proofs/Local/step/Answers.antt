-- `items::Local::step` meets its contract: it is the item's step with its cursor.
use Rattle.std.proofs.Common.{sym}
use native.Mathlib.Omega.{arith}
use Rattle.items.proofs.Laws.{item-fits}
use Rattle.items.proofs.Local.step.Goals as goal

pub overflow_add-next : goal.overflow_add-next
overflow_add-next c = omega (arith, item-fits _ _ _ _ _ _ (sym (rw c.in_ok-k.was at c.item_at.ensures)))
