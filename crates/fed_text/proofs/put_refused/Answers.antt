-- `fed_text::put_refused` puts the word, the number and the line's end.
use Rattle.text.proofs.Putting.{◌▹◌}
use Rattle.fed_text.proofs.put_refused.Goals as goal

pub returns : goal.returns
returns c = c.put_all-a.ensures ▹ c.put_decimal-b.ensures ▹ c.put_byte.ensures
