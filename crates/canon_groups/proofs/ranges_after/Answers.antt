-- `canon_groups::ranges_after` meets its contract, field by field.
use Rattle.canon_groups.proofs.Raws.{ranges_raws}
use Rattle.canon_groups.proofs.ranges_after.Goals as goal

pub returns : goal.returns
returns c =
    ranges_raws _ _ _
    (rw c.dynamic_range.ensures at c.after.ensures)
    (rw c.tenths.ensures at c.after-2.ensures)
    (rw c.offset.ensures at c.after-3.ensures)
    (rw c.offset-2.ensures at c.after-4.ensures)
