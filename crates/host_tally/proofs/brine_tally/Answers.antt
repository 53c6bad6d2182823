-- `host_tally::brine_tally` answers the tally, its places as the call left them.
use mathlib.Core.Path.{refl, ap}
use Rattle.host_tally.specs.Places.{tally_places}
use Rattle.host_tally.proofs.brine_tally.Goals as goal

pub returns : goal.returns
returns c = let e = c.count_all-t.ensures in record { value = refl; firsts_after = e.firsts_after; counts_after = e.counts_after; out_after = ap tally_places e.value }
