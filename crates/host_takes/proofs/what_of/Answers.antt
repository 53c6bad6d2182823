-- `host_takes::what_of` answers each case of what differs.
use Rattle.host_takes.specs.Places.{what_of}
use Rattle.host_takes.proofs.what_of.Goals as goal

pub returns-in-Fields : goal.returns-in-Fields
unfolding what_of
returns-in-Fields c = rw c.in-Fields.is

pub returns-in-Values : goal.returns-in-Values
unfolding what_of
returns-in-Values c = rw c.in-Values.is c.one_sided.ensures

pub returns-in-Overlong : goal.returns-in-Overlong
unfolding what_of
returns-in-Overlong c = rw c.in-Overlong.is c.one_sided-in-Overlong.ensures

pub returns-in-Only : goal.returns-in-Only
unfolding what_of
returns-in-Only c = rw c.in-Only.is c.one_sided-in-Only.ensures
