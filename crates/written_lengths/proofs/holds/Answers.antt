-- `written_lengths::holds` meets its contract: nine bytes hold every number of 64 bits.
use mathlib.Core.Path.{sym}
use native.Mathlib.Omega.{arith}
use Rattle.written_lengths.proofs.Sizes.{holds-none, holds-nine, holds_bound}
use Rattle.written_lengths.proofs.holds.Goals as goal

pub returns-then-size-gt9 : goal.returns-then-size-gt9
returns-then-size-gt9 c = sym (holds-none _ _ (omega arith))

pub returns-then-size-eq9 : goal.returns-then-size-eq9
returns-then-size-eq9 c = sym (holds-nine _ _ (omega arith) (omega arith))

pub returns : goal.returns
returns c = rw c.bound.ensures (sym (holds_bound _ _ (omega arith)))
