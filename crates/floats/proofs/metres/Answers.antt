-- `floats::metres` meets its contract: one product, narrowed once. Assumes nothing.
use Rattle.floats.specs.Quotients.{metres}
use Rattle.floats.proofs.metres.Goals as goal

pub returns : goal.returns
unfolding metres
returns c = rw c.from.ensures at c.narrow_f32.ensures
