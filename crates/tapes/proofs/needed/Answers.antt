-- `tapes::needed` meets its contract: the lesser of two numbers is no more than either.
use Rattle.std.proofs.Common.{arith}
use Rattle.tapes.proofs.needed.Goals as goal

pub returns-then-f : goal.returns-then-f
returns-then-f c = record { upper_bound = omega arith; value = rw c.if-f.true }

pub returns : goal.returns
returns c = record { upper_bound = omega (arith, c.min.ensures); value = rw (c.if-f.false, c.min.ensures) }
