-- `listing::put_tally` puts the groups, and then what is in none of them.
use Rattle.text.proofs.Putting.{◌▹◌}
use Rattle.listing.specs.Listing.{tally_lines}
use Rattle.listing.proofs.put_tally.Goals as goal

pub returns : goal.returns
unfolding tally_lines
returns c =
    c.put_tally-t.ensures.put ▹ (rw c.put_tally-t.ensures.other_value at c.put_other.ensures)
