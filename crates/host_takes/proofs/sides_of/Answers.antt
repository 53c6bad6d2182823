-- `host_takes::sides_of` answers each case of what differs.
use Rattle.std.proofs.Common.{rules}
use Rattle.host_takes.specs.Places.{values_in}
use Rattle.host_takes.proofs.sides_of.Goals as goal

pub returns-in-Fields : goal.returns-in-Fields
unfolding values_in
returns-in-Fields c = rw c.in-Fields.is

pub returns-in-Values : goal.returns-in-Values
unfolding values_in
returns-in-Values c = search rules
