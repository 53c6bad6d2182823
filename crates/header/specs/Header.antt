-- The header part: docs/RULES.md, "Tables inside values".
use Rattle.std.specs.Prelude.{ℕ, ◌+◌, ◌-◌, min, List, [], Bool, cond, length, take, drop, leb, eqb, Option, Some, None}
use Rattle.steps.specs.Told.{Told, found, nothing, refused}
use Rattle.parts.specs.Number.{number_at}
use Rattle.parts.specs.Answer.{Answer, is, none}
use Rattle.labels.specs.Label.{partition_kind}
use Rattle.klv.specs.Item.{Item}
use Rattle.items.specs.Items.{run_step}
use Rattle.header.specs.declared.Place.{Place}

-- an answer says where the part is and how long, or that there is none
abbrev pub told : Option Place → Answer Place
told (Some p) = is p
told None = none

-- the label begins with the 13 bytes of PARTITION_PREFIX, byte 13 is 2
abbrev pub is_header : List ℕ → Bool
is_header s = eqb (partition_kind s 0) 2

-- (number at 32..40) + (number at 4..8) of the pack at v
unfoldable pub size_of : List ℕ → ℕ → ℕ
size_of s v = number_at s (v + 32) 8 + number_at s (v + 4) 4

-- pack whole and at least 40 bytes: the part after it, cut to the buffer
unfoldable pub after_pack : List ℕ → Told Item → Answer Place
after_pack s (found i next) =
    cond (leb 40 i.klv.len) (is (record { at = next; len = min (size_of s i.klv.value) (length s - next) })) none
after_pack s (nothing p) = none
after_pack s (refused n p) = none

-- the pack is the KLV at 0
unfoldable pub header_of : List ℕ → Answer Place
header_of s = cond (is_header s) (after_pack s (run_step s 0)) none

-- its bytes
unfoldable pub bytes_of : List ℕ → Answer Place → List ℕ
bytes_of s (is p) = take p.len (drop p.at s)
bytes_of s none = []

abbrev pub header_bytes : List ℕ → List ℕ
header_bytes s = bytes_of s (header_of s)
