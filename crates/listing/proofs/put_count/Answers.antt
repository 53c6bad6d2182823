-- `listing::put_count` puts the word, the number and the line's end.
use Rattle.text.proofs.Putting.{◌▹◌}
use Rattle.listing.specs.Listing.{count_line}
use Rattle.listing.proofs.put_count.Goals as goal

pub returns : goal.returns
unfolding count_line
returns c = c.put_all-a.ensures ▹ c.put_decimal-b.ensures ▹ c.put_byte.ensures
