-- `canon_groups::shutter_after` meets its contract, field by field.
use Rattle.canon_groups.proofs.Raws.{shutter_raws}
use Rattle.canon_groups.proofs.shutter_after.Goals as goal

pub returns : goal.returns
returns c =
    shutter_raws _ _ _
    (rw c.quotient.ensures at c.after.ensures)
    (rw c.two_bits.ensures at c.after-2.ensures)
    (rw (c.quotient-2.ensures, c.from.ensures) at c.after-3.ensures)
