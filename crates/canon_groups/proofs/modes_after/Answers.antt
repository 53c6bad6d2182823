-- `canon_groups::modes_after` meets its contract, field by field.
use Rattle.canon_groups.proofs.Raws.{modes_raws}
use Rattle.canon_groups.proofs.modes_after.Goals as goal

pub returns : goal.returns
returns c =
    modes_raws _ _ _
    (rw c.two_bits.ensures at c.after.ensures)
    (rw c.two_bits-2.ensures at c.after-2.ensures)
    c.after-3.ensures
    c.after-4.ensures
    (rw c.sensitivity.ensures at c.after-5.ensures)
    (rw c.iso_mode.ensures at c.after-6.ensures)
