-- `tapes::recorded` meets its contract: a frame that is over-long has no values.
use Rattle.tapes.proofs.recorded.Goals as goal

pub returns-then-f : goal.returns-then-f
returns-then-f c = rw c.if-f.true

pub returns : goal.returns
returns c = rw (c.if-f.false, c.in_element.ensures)
