-- The definitions give the worked numbers of an index: they compute them. Assumes nothing.
use mathlib.Core.Path.{refl}
use Rattle.parts.specs.Number.{number_at}
use Rattle.written_numbers.specs.Number.{bytes_of}
use Rattle.search.specs.Search.{first, first_below}
use Rattle.tally.specs.Adding.{group_at}
use Rattle.index.specs.Places.{entries}
use Rattle.index.specs.Lists.{good_fields, one, of_few, narrow, last_in, early_by, add_to}
use Rattle.index.specs.Index.{written, find_of, add_of}
use Rattle.worked.specs.Indexes.{Indexes}

pub indexes : Indexes
unfolding number_at bytes_of entries good_fields one of_few narrow last_in early_by add_to written find_of add_of group_at first first_below
indexes = record {
  first_row = refl;
  second_row = refl;
  all-bits = refl;
  before-all = refl;
  first_byte = refl;
  in-the-value = refl;
  last_byte = refl;
  next_start = refl;
  empty-value = refl;
  past_all = refl;
  no_wrap = refl;
  asked_for_three = refl;
  short = refl;
  size_0 = refl;
  size_10 = refl;
  group_64 = refl;
  start_of_2_to_48 = refl;
  overlapping = refl;
  full = refl;
  left = refl;
  group_of_none = refl;
}
