-- `take_figures::put_three` puts the three with slashes between them.
use Rattle.text.proofs.Putting.{◌▹◌}
use Rattle.take_figures.proofs.put_three.Goals as goal

pub returns : goal.returns
returns c = c.put_bits-a.ensures ▹ c.put_byte-b.ensures ▹ c.put_bits-c.ensures ▹ c.put_byte-d.ensures ▹ c.put_bits.ensures
