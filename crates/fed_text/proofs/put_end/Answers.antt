-- `fed_text::put_end` puts the count, and then the last line.
use Rattle.text.proofs.Putting.{◌▹◌}
use Rattle.fed_text.proofs.put_end.Goals as goal

pub returns : goal.returns
returns c = λ st. c.put_count-a.ensures ▹ c.put_ending.ensures st
