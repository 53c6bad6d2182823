-- `floats::density` meets its contract: the branch is the definition'\''s. Assumes nothing.
use Rattle.floats.specs.Quotients.{over_thousand, density}
use Rattle.floats.proofs.Constants.{ten32, thousand64}
use Rattle.floats.proofs.density.Goals as goal

pub returns-then-d : goal.returns-then-d
unfolding density over_thousand
returns-then-d c = simp (← ten32, c.if-d.true, ← thousand64, c.widen.ensures)

pub returns-else-d : goal.returns-else-d
unfolding density
returns-else-d c = simp (← ten32, c.if-d.false, c.widen-else-d.ensures)
