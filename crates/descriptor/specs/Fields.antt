-- The items of a descriptor set: docs/RULES.md, "Tables inside values", Descriptor items.
use Rattle.std.specs.Prelude.{ℕ, ◌+◌, List, Bool, cond, ◌&&◌, length, leb, eqb, Float, Option, Some, None}
use Rattle.std.specs.Float.Ieee.Scale.{finite}
use Rattle.parts.specs.Number.{number_at, four_at}
use Rattle.floats.specs.Quotients.{ratio}
use Rattle.klv.specs.Item.{Item, tag_of, value_of}
use Rattle.descriptor.specs.declared.Area.{Area}
use Rattle.descriptor.specs.declared.Descriptor.{Descriptor}

-- an item has the tag of a field of n bytes: above 8 bytes it is skipped, too short for its type it is ignored
unfoldable pub holds : List ℕ → ℕ → ℕ → ℕ → Bool
holds value tag field n = eqb tag field && (leb (length value) 8 && leb n (length value))

-- a field of n bytes after an item: a longer one gives its first bytes
unfoldable pub whole_after : List ℕ → ℕ → ℕ → ℕ → Option ℕ → Option ℕ
whole_after value tag field n old = cond (holds value tag field n) (Some (number_at value 0 n)) old

-- a rate that isn't finite is nothing
unfoldable pub finite_rate : Float → Option Float
finite_rate x = cond (finite x) (Some x) None

-- a rate after an item: the f64 quotient of two numbers of 4 bytes, which replaces an earlier one
unfoldable pub rate_after : List ℕ → ℕ → ℕ → Option Float → Option Float
rate_after value tag field old = cond (holds value tag field 8) (finite_rate (ratio (four_at value 0) (four_at value 4))) old

-- an area after an item: its tags follow each other
unfoldable pub area_after : List ℕ → ℕ → ℕ → Area → Area
area_after value tag first old = record {
  height = whole_after value tag first 4 old.height;
  width = whole_after value tag (first + 1) 4 old.width;
  x_offset = whole_after value tag (first + 2) 4 old.x_offset;
  y_offset = whole_after value tag (first + 3) 4 old.y_offset;
}

-- every tag of the list, after an item with a tag
unfoldable pub fields_after : List ℕ → ℕ → Descriptor → Descriptor
fields_after value tag d = record {
  duration = whole_after value tag 0x0202 8 d.duration;
  timecode_base = whole_after value tag 0x1502 2 d.timecode_base;
  start_timecode = whole_after value tag 0x1501 8 d.start_timecode;
  drop_frame = whole_after value tag 0x1503 1 d.drop_frame;
  sample_rate = rate_after value tag 0x3001 d.sample_rate;
  container_duration = whole_after value tag 0x3002 8 d.container_duration;
  stored_height = whole_after value tag 0x3202 4 d.stored_height;
  stored_width = whole_after value tag 0x3203 4 d.stored_width;
  sampled = area_after value tag 0x3204 d.sampled;
  display = area_after value tag 0x3208 d.display;
  aspect_ratio = rate_after value tag 0x320e d.aspect_ratio;
  color_range = whole_after value tag 0x3306 4 d.color_range;
}

-- before the first item
abbrev pub no_area : Area
no_area = record { height = None; width = None; x_offset = None; y_offset = None }

abbrev pub empty : Descriptor
empty = record {
  duration = None;
  timecode_base = None;
  start_timecode = None;
  drop_frame = None;
  sample_rate = None;
  container_duration = None;
  stored_height = None;
  stored_width = None;
  sampled = no_area;
  display = no_area;
  aspect_ratio = None;
  color_range = None;
}

-- after an item of the set
abbrev pub fields_on : List ℕ → Descriptor → Item → Descriptor
fields_on s d i = fields_after (value_of s i) (tag_of i) d
