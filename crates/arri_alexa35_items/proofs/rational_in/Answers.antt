-- `arri_alexa35_items::rational_in` meets its contract: both are the same two tests.
use Rattle.arri_alexa35_items.specs.Kinds.{rational_in}
use Rattle.arri_alexa35_items.proofs.rational_in.Goals as goal

pub returns : goal.returns
unfolding rational_in
returns c = rw c.four_at.ensures
