-- `outline_lines::add_hex` meets its contract: bytes in hex are twice as long, and are counted so.
use native.Mathlib.Omega.{arith}
use Rattle.outline_lines.proofs.Adding.{added-put, added_out, hex_place}
use Rattle.outline_lines.proofs.add_hex.Goals as goal

pub returns-then-out-at : goal.returns-then-out-at
returns-then-out-at c = added_out _ (hex_place _ _ _ _ c.saturating_add.ensures c.saturating_add-end.ensures) (omega arith) (omega arith)

pub returns : goal.returns
returns c =
    added-put _ (hex_place _ _ _ _ c.saturating_add.ensures c.saturating_add-end.ensures) (omega arith) c.put_hex.ensures
