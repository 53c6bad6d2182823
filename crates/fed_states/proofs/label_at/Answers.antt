-- `fed_states::label_at` meets its contract: the label is whole, and copied, or it is cut.
use Rattle.std.proofs.Common.{sym, ◌∙◌}
use native.Mathlib.Nat.{add-sub_cancel_left}
use native.Mathlib.Omega.{arith}
use Rattle.fed_states.proofs.Laws.{label-whole, label-cut}
use Rattle.fed_states.proofs.label_at.Goals as goal

pub returns-then-s-lt16 : goal.returns-then-s-lt16
returns-then-s-lt16 c = sym (label-cut _ _ (omega arith))

pub returns-then-s-at : goal.returns-then-s-at
returns-then-s-at c = sym (label-cut _ _ (omega arith))

pub returns : goal.returns
returns c = rw add-sub_cancel_left at c.copy_from_slice.ensures.after ∙ sym (label-whole _ _ (omega arith))
