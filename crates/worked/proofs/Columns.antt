-- The definitions give the worked numbers of columns: they compute them. Assumes nothing.
use mathlib.Core.Path.{refl}
use Rattle.parts.specs.Number.{number_at}
use Rattle.written_numbers.specs.Number.{bytes_of}
use Rattle.index.specs.Places.{entries}
use Rattle.index.specs.Lists.{good_fields, one, of_few, narrow, last_in, early_by, add_to}
use Rattle.index.specs.Index.{written, find_of, add_of}
use Rattle.index_layouts.specs.Turning as turning
use Rattle.worked.specs.Columns.{TurnedColumns}

pub turned_columns : TurnedColumns
unfolding number_at bytes_of entries good_fields one of_few narrow last_in early_by add_to written find_of add_of turning.in_columns turning.in_rows turning.turned_by turning.turn_of turning.after_turn
turned_columns = record {
  to_columns = refl;
  to_rows = refl;
  added_in_columns = refl;
  found_in_columns = refl;
  nothing_of_nothing = refl;
  no_room = refl;
  room-left = refl;
}
