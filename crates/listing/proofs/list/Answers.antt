-- `listing::list` puts the records, their count and the tally, each behind the one before it.
use Rattle.text.proofs.Putting.{◌▹◌}
use Rattle.listing.specs.Listing.{listing_of}
use Rattle.listing.proofs.list.Goals as goal

pub returns : goal.returns
unfolding listing_of
returns c =
    let r = c.put_records-l.ensures in
    r.put ▹ (rw r.records_value at c.put_count-a.ensures) ▹ c.put_tally.ensures
