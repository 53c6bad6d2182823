-- `fed::searches` meets its contract: a law for each return.
use mathlib.Core.Path.{◌∙◌}
use native.Mathlib.Omega.{arith}
use Rattle.fed.proofs.Breaking.{searches-closed, searches-past, searches_in}
use Rattle.fed.proofs.searches.Goals as goal

pub returns-then-not-live : goal.returns-then-not-live
returns-then-not-live c = searches-closed _ _ _ _ _ c.if-not-live.true

pub returns-then-limit-at : goal.returns-then-limit-at
returns-then-limit-at c = searches-past _ _ _ _ _ c.if-not-live.false (omega (arith, c.if-limit-at.true))

pub returns-then-room-have : goal.returns-then-room-have
returns-then-room-have c = searches-past _ _ _ _ _ c.if-not-live.false (omega (arith, c.if-limit-at.false, c.if-room-have.true))

pub returns-then-room-have-2 : goal.returns-then-room-have-2
returns-then-room-have-2 c = searches-past _ _ _ _ _ c.if-not-live.false (omega (arith, c.if-limit-at.false, c.if-room-have.false, c.if-room-have-2.true))

pub returns : goal.returns
returns c = c.breaks.ensures ∙ searches_in _ _ _ _ _ c.if-not-live.false (omega (arith, c.if-limit-at.false, c.if-room-have.false, c.if-room-have-2.false))
