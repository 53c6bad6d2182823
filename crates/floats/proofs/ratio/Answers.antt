-- `floats::ratio` meets its contract: an f64 holds every u32, so the conversions are exact. Assumes nothing.
use Rattle.floats.specs.Quotients.{quotient, ratio}
use Rattle.floats.proofs.ratio.Goals as goal

pub returns : goal.returns
unfolding ratio quotient
returns c = rw (c.from.ensures, c.from-2.ensures)
