-- `frame_walks::kind_of` meets its contract: each walk has its own.
use Rattle.frame_walks.specs.Kinds.{kind_of}
use Rattle.frame_walks.proofs.kind_of.Goals as goal

pub returns-in-Sony : goal.returns-in-Sony
unfolding kind_of
returns-in-Sony c = rw c.in-Sony.is c.sony_kind.ensures

pub returns-in-Arri : goal.returns-in-Arri
unfolding kind_of
returns-in-Arri c = rw c.in-Arri.is c.arri_kind.ensures

pub returns-in-Canon : goal.returns-in-Canon
unfolding kind_of
returns-in-Canon c = rw c.in-Canon.is c.canon_kind.ensures
