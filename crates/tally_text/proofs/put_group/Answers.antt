-- `tally_text::put_group` puts the bytes before, the label, the count and the bytes around it.
use mathlib.Core.Path.{sym}
use Rattle.text.proofs.Putting.{◌▹◌}
use Rattle.tally_text.specs.Groups.{group_text}
use Rattle.tally_text.proofs.put_group.Goals as goal

pub returns : goal.returns
unfolding group_text
returns c =
    rw (sym c.label.ensures)
    (c.put_all-a.ensures ▹ c.put_hex-b.ensures ▹ c.put_byte-c.ensures ▹ c.put_decimal-d.ensures ▹ c.put_byte.ensures)
