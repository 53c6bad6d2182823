-- `arri_alexa35_items::positive_in` meets its contract: both are the same two tests.
use Rattle.arri_alexa35_items.specs.Kinds.{positive_in}
use Rattle.arri_alexa35_items.proofs.positive_in.Goals as goal

pub returns : goal.returns
unfolding positive_in
returns c = rw (c.positive.ensures, c.four_at.ensures)
