-- `fed_text::put_again` puts the word, the place, the rest and the line's end.
use Rattle.text.proofs.Putting.{◌▹◌}
use Rattle.fed_text.proofs.put_again.Goals as goal

pub returns : goal.returns
returns c = c.put_all-a.ensures ▹ c.put_decimal-b.ensures ▹ c.put_byte-c.ensures ▹ c.put_decimal-d.ensures ▹ c.put_byte.ensures
