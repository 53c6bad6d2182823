-- `arri_block::first_bytes` meets its contract: the branch is the definition's.
use borrow.Author.Tests.{le-leb, lt-leb}
use Rattle.arri_block.specs.Block.{first_bytes}
use Rattle.arri_block.proofs.first_bytes.Goals as goal

pub returns-then-k-lt256 : goal.returns-then-k-lt256
unfolding first_bytes
returns-then-k-lt256 c = simp (lt-leb _ _ c.if-k-lt256.true)

pub returns : goal.returns
unfolding first_bytes
returns c = simp (le-leb _ _ c.if-k-lt256.false)
