-- `takes_text::put_line` puts the head, and the figures of both sides.
use Rattle.text.proofs.Putting.{◌▹◌}
use Rattle.takes_text.proofs.put_line.Goals as goal

pub returns : goal.returns
returns c = c.put_head-a.ensures ▹ c.put_figure-b.ensures ▹ c.put_byte-c.ensures ▹ c.put_figure-d.ensures ▹ c.put_byte.ensures
