-- `signed::around16` meets its contract: the difference of two small numbers fits. Assumes nothing.
use native.Mathlib.Omega.{arith}
use lib.Dec.{lit<}
use mir.Syntax.{w32}
use Rattle.signed.specs.Signed.{around}
use Rattle.signed.proofs.Laws.{less}
use Rattle.signed.proofs.around16.Goals as goal

pub returns : goal.returns
unfolding around
returns c = less w32 c.args.v 32767 (omega arith) (lit< tt) _ c.from.ensures
