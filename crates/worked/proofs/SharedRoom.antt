-- The definitions give the worked numbers of a shared room: they compute them. Assumes nothing.
use mathlib.Core.Path.{refl}
use Rattle.parts.specs.Number.{number_at}
use Rattle.written_numbers.specs.Number.{bytes_of}
use Rattle.index.specs.Places.{entries}
use Rattle.index.specs.Lists.{good_fields, one, of_few, narrow, last_in, early_by, add_to}
use Rattle.index.specs.Index.{written}
use Rattle.index_layouts.specs.Turning as turning
use Rattle.shared_index.specs.Rooms.{is_open, is_sound, set_up_of, opened_of, closed_of}
use Rattle.shared_index.specs.Shared.{added_as, find_of, add_of, after_add}
use Rattle.worked.specs.SharedRoom.{SharedRoom}

pub shared_room : SharedRoom
unfolding number_at bytes_of entries good_fields one of_few narrow last_in early_by add_to written turning.in_columns turning.in_rows turning.turned_by is_open is_sound set_up_of opened_of closed_of added_as find_of add_of after_add
shared_room = record {
  shares_above = refl;
  set-up = refl;
  opened = refl;
  twice = refl;
  no_such_file = refl;
  closed = refl;
  not_open = refl;
  not-added = refl;
  third-file = refl;
  bad_field = refl;
  second_of_0 = refl;
  third_of_0 = refl;
  overlapping = refl;
  first_of_1 = refl;
  last_row = refl;
  third_of_1 = refl;
  after-closing = refl;
  share-kept = refl;
  found_in_0 = refl;
  found_in_1 = refl;
  in-columns = refl;
  asked_of_none = refl;
  made_up = refl;
}
