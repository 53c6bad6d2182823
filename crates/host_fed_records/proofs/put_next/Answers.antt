-- `host_fed_records::put_next` meets its contract: the record is moved to its place of the stream.
use mathlib.Core.Path.{refl}
use Rattle.host_fed_records.proofs.put_next.Goals as goal

pub returns : goal.returns
returns c =
    let e = c.put.ensures in
    rw (e.records_after, e.labels_after, c.label_at.ensures, c.saturating_sub-passed.ensures, c.moved-r.ensures) record { records_after = refl; labels_after = refl }

pub moved-r-requires : goal.moved-r-requires
moved-r-requires c = record { at_bound = c.requires.at_bound; value_bound = c.requires.value_bound }

pub label_at-requires : goal.label_at-requires
label_at-requires c = c.requires.at_in_bounds

pub put-requires : goal.put-requires
put-requires c = record { places_each_in_bounds = c.requires.places_each_in_bounds; n_in_bounds = c.requires.n_in_bounds }
