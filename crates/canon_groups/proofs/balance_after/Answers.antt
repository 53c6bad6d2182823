-- `canon_groups::balance_after` meets its contract, field by field.
use Rattle.canon_groups.proofs.Raws.{balance_raws}
use Rattle.canon_groups.proofs.balance_after.Goals as goal

pub returns : goal.returns
returns c =
    balance_raws _ _ _
    (rw c.balance_mode.ensures at c.after.ensures)
    (rw c.balance_preset.ensures at c.after-2.ensures)
    c.after-3.ensures
    (rw (c.whole.ensures, c.from.ensures) at c.after-4.ensures)
    (rw c.line_index.ensures at c.after-5.ensures)
