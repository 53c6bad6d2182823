-- `fed_text::put_line` puts the record and the line's end.
use Rattle.text.proofs.Putting.{◌▹◌}
use Rattle.fed_text.proofs.put_line.Goals as goal

pub returns : goal.returns
returns c = c.put_record-a.ensures ▹ c.put_byte.ensures
