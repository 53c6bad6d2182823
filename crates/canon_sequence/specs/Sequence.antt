-- Sequence info: docs/RULES.md, "Tables inside values", Canon.
use Rattle.std.specs.Prelude.{ℕ, ℤ, List, false, cond, ◌&&◌, length, eqb, Option, Some, None}
use Rattle.signed.specs.Signed.{signed_bits}
use Rattle.parts.specs.Number.{number_of}
use Rattle.klv.specs.declared.Klv.{Klv}
use Rattle.klv.specs.Item.{Item, tag_of, value_of}
use Rattle.items.specs.Items.{items_of}
use Rattle.items.specs.After.{after}
use Rattle.canon_sequence.specs.declared.Sequence.{Sequence}

-- a position after an item with a tag: signed, of exactly 8 bytes
unfoldable pub position_after : List ℕ → ℕ → ℕ → Option ℤ → Option ℤ
position_after value tag field old =
    cond (eqb tag field && eqb (length value) 8) (Some (signed_bits 64 (number_of value))) old

-- an identifier after an item with a tag: the item's bytes
unfoldable pub identifier_after : ℕ → Klv → ℕ → Option Klv → Option Klv
identifier_after tag k field old = cond (eqb tag field) (Some k) old

-- tags 1501h and 1201h are positions, 3C0Ah and 4401h identifiers
unfoldable pub fields_after : List ℕ → ℕ → Klv → Sequence → Sequence
fields_after value tag k q = record {
  instance_uid = identifier_after tag k 0x3c0a q.instance_uid;
  package_uid = identifier_after tag k 0x4401 q.package_uid;
  start_timecode = position_after value tag 0x1501 q.start_timecode;
  start_position = position_after value tag 0x1201 q.start_position;
}

abbrev pub empty : Sequence
empty = record { instance_uid = None; package_uid = None; start_timecode = None; start_position = None }

-- after an item of the set
abbrev pub fields_on : List ℕ → Sequence → Item → Sequence
fields_on s q i = fields_after (value_of s i) (tag_of i) i.klv q

-- items with 2 and 2, one after the other: the last one stands
unfoldable pub sequence_of : List ℕ → Sequence
sequence_of s = after (fields_on s) empty (items_of 2 false s)
