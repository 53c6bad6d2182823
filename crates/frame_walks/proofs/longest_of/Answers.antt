-- `frame_walks::longest_of` meets its contract: each walk has its own.
use Rattle.frame_walks.specs.Kinds.{longest_of}
use Rattle.frame_walks.proofs.longest_of.Goals as goal

pub returns-in-Sony : goal.returns-in-Sony
unfolding longest_of
returns-in-Sony c = rw c.in-Sony.is

pub returns-in-Arri : goal.returns-in-Arri
unfolding longest_of
returns-in-Arri c = rw c.in-Arri.is

pub returns-in-Canon : goal.returns-in-Canon
unfolding longest_of
returns-in-Canon c = rw c.in-Canon.is
