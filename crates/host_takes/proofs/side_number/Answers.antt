-- `host_takes::side_number` has a number for each side.
use Rattle.host_takes.specs.Places.{side_number}
use Rattle.host_takes.proofs.side_number.Goals as goal

pub returns-in-Main : goal.returns-in-Main
unfolding side_number
returns-in-Main c = rw c.in-Main.is

pub returns-in-Backup : goal.returns-in-Backup
unfolding side_number
returns-in-Backup c = rw c.in-Backup.is
