-- `take_figures::put_pair` puts both with a slash between them.
use mathlib.Core.Path.{sym}
use Rattle.text.proofs.Putting.{◌▹◌}
use Rattle.take_figures.proofs.put_pair.Goals as goal

pub returns : goal.returns
returns c = rw (sym c.from.ensures, sym c.from-2.ensures) (c.put_bits-a.ensures ▹ c.put_byte-b.ensures ▹ c.put_bits.ensures)
