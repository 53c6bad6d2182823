-- `streams::put_failure` puts its four texts behind one another.
use Rattle.text.proofs.Putting.{◌▹◌}
use Rattle.streams.proofs.put_failure.Goals as goal

pub returns : goal.returns
returns c = (_, c.put_all-p.ensures ▹ c.put_all-q.ensures ▹ c.put_all-r.ensures ▹ c.put_byte.ensures)
