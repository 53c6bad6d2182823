use mathlib.Core.Path.{sym}
use native.Mathlib.Omega.{arith}
use Rattle.fed.proofs.Starting.{starts_zero, starts_late, starts-start}
use Rattle.fed.proofs.starts.Goals as goal

pub returns-then-have-eq0 : goal.returns-then-have-eq0
returns-then-have-eq0 c = sym (starts_zero _ _ c.if-have-eq0.true)

pub returns-then-have-ge4 : goal.returns-then-have-ge4
returns-then-have-ge4 c = sym (starts_late _ _ c.if-have-ge4.true)

pub returns : goal.returns
returns c = starts-start _ _ c.if-have-eq0.false (omega arith)
