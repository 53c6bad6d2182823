-- A Private Camera Metadata: docs/RULES.md, "Tables inside values", Canon.
use Rattle.std.specs.Prelude.{ℕ, zero, suc, ◌+◌, ◌-◌, ◌*◌, ◌/◌, min, List, length, get_or}
use Rattle.parts.specs.Number.{two_at, four_at}
use Rattle.canon_groups.specs.declared.Pack.{Pack}
use Rattle.canon_groups.specs.Fields.{fields_of, bits_of}
use Rattle.canon_groups.specs.Groups.{lens_after, modes_after, shutter_after, balance_after, gain_after, ranges_after, no_lens, no_modes, no_shutter, no_balance, no_gain, no_ranges}
use Rattle.canon_packs.specs.declared.Camera.{Camera}

-- the camera after a pack of that id with these raw fields
unfoldable pub camera_after : ℕ → List ℕ → Camera → Camera
camera_after id fs c = record {
  lens = lens_after id fs c.lens;
  modes = modes_after id fs c.modes;
  shutter = shutter_after id fs c.shutter;
  balance = balance_after id fs c.balance;
  gain = gain_after id fs c.gain;
  ranges = ranges_after id fs c.ranges;
}

-- before the first pack
abbrev pub unknown : Camera
unknown = record { lens = no_lens; modes = no_modes; shutter = no_shutter; balance = no_balance; gain = no_gain; ranges = no_ranges }

-- the raw fields of the pack of 5 at a place: its first byte is its id, and they are bits of the number of the other four
unfoldable pub raws_at : List ℕ → ℕ → List ℕ
raws_at s at = bits_of (fields_of (get_or s at 0)) (four_at s (at + 1))

-- after the first n packs, which follow the count
unfoldable pub after_packs : List ℕ → ℕ → Camera
after_packs s zero = unknown
after_packs s (suc n) = camera_after (get_or s (1 + 5 * n) 0) (raws_at s (1 + 5 * n)) (after_packs s n)

-- its first byte is a count; packs of 5 follow, at most that many, a partial one dropped
unfoldable pub camera_of : List ℕ → Camera
camera_of s = after_packs s (min (get_or s 0 0) ((length s - 1) / 5))

-- a pack as the code reads it: its id, its four bytes, and the numbers of its first, middle and last two and of all
unfoldable pub pack_of : List ℕ → Pack
pack_of s = record {
  id = get_or s 0 0;
  b0 = get_or s 1 0;
  b1 = get_or s 2 0;
  b2 = get_or s 3 0;
  b3 = get_or s 4 0;
  first = two_at s 1;
  middle = two_at s 2;
  last = two_at s 3;
  whole = four_at s 1;
}
