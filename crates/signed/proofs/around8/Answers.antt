-- `signed::around8` meets its contract: the difference of two small numbers fits. Assumes nothing.
use native.Mathlib.Omega.{arith}
use lib.Dec.{lit<}
use mir.Syntax.{w16}
use Rattle.signed.specs.Signed.{around}
use Rattle.signed.proofs.Laws.{less}
use Rattle.signed.proofs.around8.Goals as goal

pub returns : goal.returns
unfolding around
returns c = less w16 c.args.v 127 (omega arith) (lit< tt) _ c.from.ensures
