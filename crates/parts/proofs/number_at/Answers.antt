-- `parts::number_at` meets its contract: it is the number of the part.
use Rattle.parts.proofs.number_at.Goals as goal

pub returns : goal.returns
returns c = rw c.part.ensures at c.number.ensures
