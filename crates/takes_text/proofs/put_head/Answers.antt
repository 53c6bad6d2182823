-- `takes_text::put_head` puts the number and the field.
use Rattle.text.proofs.Putting.{◌▹◌}
use Rattle.takes_text.proofs.put_head.Goals as goal

pub returns : goal.returns
returns c = c.put_decimal-a.ensures ▹ c.put_byte-b.ensures ▹ c.put_all-c.ensures ▹ c.put_byte.ensures
