-- `canon_groups::gain_after` meets its contract, field by field.
use Rattle.canon_groups.proofs.Raws.{gain-raws}
use Rattle.canon_groups.proofs.gain_after.Goals as goal

pub returns : goal.returns
returns c =
    gain-raws _ _ _
    (rw c.after-mode.ensures at c.after.ensures)
    (rw (c.decibels-2.ensures, c.after-level.ensures, c.decibels.ensures, c.from.ensures) at c.after-2.ensures)
    (rw (c.whole-2.ensures, c.from-3.ensures, c.after-nd_filter.ensures, c.whole.ensures, c.from-2.ensures) at c.after-3.ensures)
    (rw c.whole-3.ensures at c.after-4.ensures)
    (rw c.whole-4.ensures at c.after-5.ensures)
