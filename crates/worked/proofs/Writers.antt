-- The definitions compute these numbers. Assumes nothing.
use mathlib.Core.Path.{refl}
use Rattle.parts.specs.Number.{number_at, two_at, four_at}
use Rattle.steps.specs.Listed.{before, at_most, list_from, onward, end_at_most, end_from}
use Rattle.lengths.specs.Length.{bound_of, shortest_of, held_at, length_by, length_at}
use Rattle.items.specs.Items.{length_in, by_value, by_length, item_step, run_of}
use Rattle.primer.specs.Primer.{later, last_of, entries_in, entry_of}
use Rattle.canon_values.specs.Values as values
use Rattle.canon_groups.specs.Fields.{table, bits_of}
use Rattle.canon_groups.specs.Groups.{after, balance_after}
use Rattle.canon_packs.specs.Camera.{camera_after, raws_at, after_packs, camera_of}
use Rattle.written_numbers.specs.Number.{bytes_of}
use Rattle.written_lengths.specs.Form.{form_of, holds, size_from, shortest_size}
use Rattle.written_lengths.specs.Wrote.{said, into}
use Rattle.written_klvs.specs.Klvs.{klv_bytes, item_bytes, in_shortest, rewritten, run_end, all_shortest}
use Rattle.written_tables.specs.Items.{good_item, local_bytes}
use Rattle.written_tables.specs.Primer.{good_primer, entries_bytes, primer_bytes}
use Rattle.written_packs.specs.Packs.{fitting, sum_of, good_pack, pack_bytes}
use Rattle.worked.specs.Writers.{Lengths, Klvs, Tables, Packs, Writers}

lengths : Lengths
unfolding bytes_of bound_of form_of holds size_from shortest_size said into
lengths = (refl, refl, refl, refl, refl, refl, refl, refl, refl, refl, refl, refl, refl, refl)

klvs : Klvs
unfolding number_at bytes_of bound_of shortest_of held_at length_by length_at length_in by_value by_length item_step before at_most list_from onward end_at_most end_from run_of form_of holds size_from shortest_size klv_bytes item_bytes in_shortest rewritten run_end all_shortest
klvs = (refl, refl, refl, refl, refl, refl)

tables : Tables
unfolding number_at bytes_of later last_of entries_in entry_of good_item local_bytes good_primer entries_bytes primer_bytes
tables = (refl, refl, refl, refl, refl, refl)

packs : Packs
unfolding number_at two_at four_at bytes_of values.put values.balance_mode values.balance_preset values.whole table bits_of after balance_after camera_after raws_at after_packs camera_of fitting sum_of good_pack pack_bytes said
packs = (refl, refl, refl, refl, refl, refl, refl, refl, refl, refl, refl, refl, refl)

pub writers : Writers
writers = (lengths, klvs, tables, packs)
