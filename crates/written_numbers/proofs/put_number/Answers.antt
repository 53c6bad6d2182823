-- `written_numbers::put_number` meets its contract: by cases on whether the bytes lie in the room.
use mathlib.Core.Path.{sym, ◌∙◌}
use native.Mathlib.Omega.{arith}
use Rattle.written_numbers.proofs.Written.{placed-there, placed-not}
use Rattle.written_numbers.proofs.put_number.Goals as goal
use Rattle.written_numbers.proofs.put_number.Goals.{else-at-out-via-then-at-out+else-n-out, else-at-out-via-else-at-out}

pub returns-then-n-out : goal.returns-then-n-out
returns-then-n-out c = c.put_whole.ensures ∙ sym (placed-there _ _ _ _ (omega arith))

pub returns-else-at-out : goal.returns-else-at-out
returns-else-at-out c =
    sym (placed-not _ _ _ _ (elim c.else-at-out.branch [ else-at-out-via-then-at-out+else-n-out w ↦ omega arith | else-at-out-via-else-at-out w ↦ omega arith ]))
