-- `listing::print` meets its contract: the branch is the definition's.
use Rattle.listing.specs.Listing.{printed}
use Rattle.listing.proofs.print.Goals as goal

pub returns-then-more : goal.returns-then-more
unfolding printed
returns-then-more c =
    rw c.if-more.true c.put_all.ensures

pub returns : goal.returns
unfolding printed
returns c =
    rw c.if-more.false c.list.ensures
