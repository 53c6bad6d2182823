-- `arri_block::bytes` meets its contract: each return is one case of the definition.
use Rattle.arri_block.specs.Block.{bytes_of}
use Rattle.arri_block.proofs.bytes.Goals as goal

pub returns-in-Some : goal.returns-in-Some
unfolding bytes_of
returns-in-Some c = rw c.in-Some.is c.part.ensures

pub returns-in-None : goal.returns-in-None
unfolding bytes_of
returns-in-None c = rw c.in-None.is c.part-in-None.ensures
