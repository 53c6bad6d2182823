-- `tapes::unread` meets its contract: the walk is opened at the file's size.
use Rattle.tapes.proofs.unread.Goals as goal

pub returns : goal.returns
returns c = rw c.open_end.ensures
