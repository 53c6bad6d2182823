-- `takes_text::put_sided` puts the head, and which side has it.
use Rattle.text.proofs.Putting.{◌▹◌}
use Rattle.takes_text.proofs.put_sided.Goals as goal

pub returns : goal.returns
returns c = c.put_head-a.ensures ▹ c.put_yes.ensures
