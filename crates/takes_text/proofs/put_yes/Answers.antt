-- `takes_text::put_yes` puts the line of each case.
use Rattle.takes_text.specs.Lines.{yes_of}
use Rattle.takes_text.proofs.put_yes.Goals as goal

pub returns-in-Main : goal.returns-in-Main
unfolding yes_of
returns-in-Main c = rw c.in-Main.is c.put_all.ensures

pub returns-in-Backup : goal.returns-in-Backup
unfolding yes_of
returns-in-Backup c = rw c.in-Backup.is c.put_all-in-Backup.ensures
