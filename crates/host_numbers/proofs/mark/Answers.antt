-- `host_numbers::mark` answers each case of the flag.
use mathlib.Core.Path.{refl}
use Rattle.host_numbers.specs.Numbers.{mark}
use Rattle.host_numbers.proofs.mark.Goals as goal

pub returns-then-b : goal.returns-then-b
unfolding mark
returns-then-b c = rw c.if-b.true refl

pub returns-else-b : goal.returns-else-b
unfolding mark
returns-else-b c = rw c.if-b.false refl
