-- `arri_alexa35_items::effective_in` meets its contract: it is the thousandths of a usable number.
use Rattle.arri_alexa35_items.specs.Kinds.{effective_in}
use Rattle.arri_alexa35_items.proofs.effective_in.Goals as goal

pub returns : goal.returns
unfolding effective_in
returns c = rw (c.double_thousandths.ensures, c.four_at.ensures, c.positive_in.ensures)
