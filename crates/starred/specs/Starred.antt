-- The starred numbers of docs/RULES.md, "Numbers on both sides", together.
use Rattle.std.specs.Prelude.{ℕ, ◌-◌, ◌^◌, ◌<◌, ◌≡◌, List, [], ◌∷◌, ◌++◌, Bool, true, false, length, replicate, Float, Option, Some, Err, Ok, Result}
use Rattle.steps.specs.Told.{nothing}
use Rattle.lengths.specs.declared.Field.{Field}
use Rattle.lengths.specs.declared.NoLength.{NoLength}
use Rattle.lengths.specs.declared.NoLength.TheVariants.{Cut, Invalid}
use Rattle.lengths.specs.Length.{length_at}
use Rattle.labels.specs.Label.{key_at}
use Rattle.klv.specs.Item.{item}
use Rattle.walk.specs.declared.Turn.TheVariants.{Search}
use Rattle.walk.specs.Rules.{rules}
use Rattle.walk.specs.Walk.{arriving_step}
use Rattle.records.specs.Records.{finished}
use Rattle.canon_values.specs.declared.Value.TheVariants.{Close}
use Rattle.canon_values.specs.Values.{aperture}
use Rattle.floats.specs.Rounding.{nearest_f32}
use Rattle.floats.specs.Near.{IsWhole, Near}
use Rattle.frame_values.specs.declared.Distance.{Distance}
use Rattle.frame_values.specs.declared.Distance.TheVariants.{Metres}
use Rattle.arri_mini.specs.Dynamic as mini
use Rattle.arri_alexa35_items.specs.Kinds as alexa35

-- a key: the label of the rules' listing
abbrev pub key : List ℕ
key = 0x06 ∷ 0x0e ∷ 0x2b ∷ 0x34 ∷ 0x01 ∷ 0x01 ∷ 0x01 ∷ 0x0d ∷ 0x0e ∷ 0x15 ∷ 0x00 ∷ 0x01 ∷ 0x00 ∷ 0x01 ∷ 0x00 ∷ 0x00 ∷ []

-- a length: its number, its bytes, and whether that is its shortest form ("L1. How long the length field was")
abbrev pub is : ℕ → ℕ → Bool → Result Field NoLength
is value size shortest = Ok (record { value = value; size = size; shortest = shortest })

-- `7f`: 127, 1 byte. `80`: 0, 1 byte. `8100`: 0, 2 bytes. `820100`: 256, 3 bytes. `88` and eight `ff`: 2^64 - 1. `89`: none. `81` alone: cut
abbrev pub Lengths : Type 0
Lengths =
    (length_at (0x7f ∷ []) 0 ≡ is 127 1 true)
    × (length_at (0x80 ∷ []) 0 ≡ is 0 1 false)
    × (length_at (0x81 ∷ 0x00 ∷ []) 0 ≡ is 0 2 false)
    × (length_at (0x82 ∷ 0x01 ∷ 0x00 ∷ []) 0 ≡ is 256 3 true)
    × (length_at (0x88 ∷ replicate 8 0xff) 0 ≡ is (2 ^ 64 - 1) 9 true)
    × (length_at (0x89 ∷ []) 0 ≡ Err Invalid)
    × (length_at (0x81 ∷ []) 0 ≡ Err Cut)

-- 16 bytes: no record. 17, a key and `00`: one, whatever the key's other bytes. A key and `01`, no more: none when finished
abbrev pub Finished : Type 0
Finished =
    ((s : List ℕ) → length s ≡ 16 → finished s ≡ [])
    × ((k : List ℕ) → length k ≡ 16 → key_at k 0 ≡ true → finished (k ++ (0x00 ∷ [])) ≡ item 16 k (record { at = 0; value = 17; len = 0; size = 1; shortest = true }) ∷ [])
    × (finished (key ++ (0x01 ∷ [])) ≡ [])

-- when arriving, it waits at limit 18, and at limit 17 searches
abbrev pub Arriving : Type 0
Arriving =
    (arriving_step 18 (key ++ (0x01 ∷ [])) 0 ≡ nothing 0)
    × (rules 17 (key ++ (0x01 ∷ [])) 17 0 ≡ Search 17)
    × (arriving_step 17 (key ++ (0x01 ∷ [])) 0 ≡ nothing 17)

-- u32 to f32: 16,777,217 to 16,777,216; 16,777,219 to 16,777,220; within 128 for every u32
abbrev pub Floats : Type 0
Floats =
    ((v : ℕ) → v < 2 ^ 32 → Near 128 (nearest_f32 v) v)
    × IsWhole (nearest_f32 16777217) 16777216
    × IsWhole (nearest_f32 16777219) 16777220

-- a distance is 1.0
abbrev pub OneMetre : Option Distance → Type 0
OneMetre d = (x : Float) × (d ≡ Some (Metres x)) × IsWhole x 1

-- 1000 thousandths is 1.0: the ALEXA Mini's distance, whether its lens has other data or not, and the ALEXA 35's metric one
abbrev pub Distances : Type 0
Distances = ((lens : Bool) → OneMetre (mini.distance_of lens 1000)) × OneMetre (alexa35.distance_of false 1000)

-- apertures: (0, 65534) closed
abbrev pub Apertures : Type 0
Apertures = aperture 0 65534 ≡ Some Close

abbrev pub Starred : Type 0
Starred = Lengths × Finished × Arriving × Floats × Distances × Apertures
