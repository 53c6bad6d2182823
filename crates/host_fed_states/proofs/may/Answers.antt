-- `host_fed_states::may` meets its contract: a law for each return.
use native.Mathlib.Omega.{arith}
use Rattle.host_fed_states.proofs.Values.{may_closed, may_not, may_so}
use Rattle.host_fed_states.proofs.may.Goals as goal

pub returns-then-not-live : goal.returns-then-not-live
returns-then-not-live c = let a = c.args in may_closed a.live a.limit a.at a.have a.n c.if-not-live.true

pub returns-then-limit-at : goal.returns-then-limit-at
returns-then-limit-at c = let a = c.args in may_not a.live a.limit a.at a.have a.n (omega (arith, c.if-limit-at.true))

pub returns-then-room-have : goal.returns-then-room-have
returns-then-room-have c = let a = c.args in may_not a.live a.limit a.at a.have a.n (omega (arith, c.if-limit-at.false, c.if-room-have.true))

pub returns : goal.returns
returns c = let a = c.args in may_so a.live a.limit a.at a.have a.n c.if-not-live.false (omega (arith, c.if-limit-at.false, c.if-room-have.false))
