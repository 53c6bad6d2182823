-- `header::bytes` meets its contract: the part at the place that was found, or no bytes.
use mathlib.Core.Path.{ap, ◌∙◌}
use Rattle.header.specs.Header.{bytes_of}
use Rattle.header.proofs.bytes.Goals as goal

pub returns-in-Some : goal.returns-in-Some
unfolding bytes_of
returns-in-Some c = c.part.ensures ∙ ap (bytes_of c.args.s.now) c.in-Some.ensures

pub returns-in-None : goal.returns-in-None
unfolding bytes_of
returns-in-None c = ap (bytes_of c.args.s.now) c.in-None.ensures
