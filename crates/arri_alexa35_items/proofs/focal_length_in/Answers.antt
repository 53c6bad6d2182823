-- `arri_alexa35_items::focal_length_in` meets its contract: it is the thousandths of a usable number.
use Rattle.arri_alexa35_items.specs.Kinds.{focal_length_in}
use Rattle.arri_alexa35_items.proofs.focal_length_in.Goals as goal

pub returns : goal.returns
unfolding focal_length_in
returns c = rw (c.single_thousandths.ensures, c.four_at.ensures, c.positive_in.ensures)
