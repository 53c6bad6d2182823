-- `fed_text::put_refusal` puts the count, and then the last line.
use Rattle.text.proofs.Putting.{◌▹◌}
use Rattle.fed_text.proofs.put_refusal.Goals as goal

pub returns : goal.returns
returns c = c.put_count-a.ensures ▹ c.put_refused.ensures
