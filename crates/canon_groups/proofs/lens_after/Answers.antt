-- `canon_groups::lens_after` meets its contract, field by field.
use Rattle.canon_groups.proofs.Raws.{lens_raws}
use Rattle.canon_groups.proofs.lens_after.Goals as goal

pub returns : goal.returns
returns c =
    lens_raws _ _ _
    (rw (c.tenths.ensures, c.from.ensures) at c.after.ensures)
    (rw c.zoom.ensures at c.after-2.ensures)
    (rw c.aperture.ensures at c.after-3.ensures)
    (rw c.aperture-2.ensures at c.after-4.ensures)
    (rw c.tenths-2.ensures at c.after-5.ensures)
    (rw c.tenths-3.ensures at c.after-6.ensures)
    (rw c.flag.ensures at c.after-7.ensures)
    (rw c.offset.ensures at c.after-8.ensures)
