-- `items::length_in` meets its contract: each coding has its reader.
use Rattle.items.specs.Items.{length_in}
use Rattle.items.proofs.length_in.Goals as goal

pub returns-then-ber : goal.returns-then-ber
unfolding length_in
returns-then-ber c =
    rw c.if-ber.true c.read.ensures

pub returns : goal.returns
unfolding length_in
returns c =
    rw c.if-ber.false c.read_two.ensures
