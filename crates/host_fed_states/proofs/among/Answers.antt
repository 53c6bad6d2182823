-- `host_fed_states::among` meets its contract: a law for each return.
use native.Mathlib.Omega.{arith}
use Rattle.host_fed_states.proofs.Kept.{among_not, among_so}
use Rattle.host_fed_states.proofs.among.Goals as goal

pub returns-then-limit-at : goal.returns-then-limit-at
returns-then-limit-at c = let a = c.args in among_not a.limit a.at a.n a.w (omega (arith, c.if-limit-at.true))

pub returns-then-limit-at-2 : goal.returns-then-limit-at-2
returns-then-limit-at-2 c = let a = c.args in among_not a.limit a.at a.n a.w (omega (arith, c.if-limit-at.false, c.if-limit-at-2.true))

pub returns : goal.returns
returns c = let a = c.args in among_so a.limit a.at a.n a.w (omega (arith, c.if-limit-at.false, c.if-limit-at-2.false))
