-- Worked numbers of docs/RULES.md, "L1. How long the length field was".
use Rattle.std.specs.Prelude.{ℕ, ◌-◌, ◌^◌, ◌≡◌, List, [], ◌∷◌, ◌++◌, Bool, true, false, replicate, Err, Ok, Result}
use Rattle.lengths.specs.declared.Field.{Field}
use Rattle.lengths.specs.declared.NoLength.{NoLength}
use Rattle.lengths.specs.declared.NoLength.TheVariants.{Cut, Invalid}
use Rattle.lengths.specs.Length.{length_at}
use Rattle.klv.specs.Item.{item}
use Rattle.items.specs.Items.{run_of, items_of}
use Rattle.records.specs.Records.{finished}

-- a length: its number, its bytes, shortest or not
abbrev pub is : ℕ → ℕ → Bool → Result Field NoLength
is value size shortest = Ok (record { value = value; size = size; shortest = shortest })

abbrev pub LengthForms : Type 0
LengthForms =
    (length_at (0x00 ∷ []) 0 ≡ is 0 1 true)
    × (length_at (0x7f ∷ []) 0 ≡ is 127 1 true)
    × (length_at (0x80 ∷ []) 0 ≡ is 0 1 false)
    × (length_at (0x81 ∷ 0x00 ∷ []) 0 ≡ is 0 2 false)
    × (length_at (0x81 ∷ 0x7f ∷ []) 0 ≡ is 127 2 false)
    × (length_at (0x81 ∷ 0x80 ∷ []) 0 ≡ is 128 2 true)
    × (length_at (0x82 ∷ 0x00 ∷ 0xff ∷ []) 0 ≡ is 255 3 false)
    × (length_at (0x82 ∷ 0x01 ∷ 0x00 ∷ []) 0 ≡ is 256 3 true)
    × (length_at (0x87 ∷ replicate 7 0xff) 0 ≡ is (2 ^ 56 - 1) 8 true)
    × (length_at (0x88 ∷ 0x00 ∷ replicate 7 0xff) 0 ≡ is (2 ^ 56 - 1) 9 false)
    × (length_at (0x88 ∷ 0x01 ∷ replicate 7 0x00) 0 ≡ is (2 ^ 56) 9 true)
    × (length_at (0x88 ∷ replicate 8 0xff) 0 ≡ is (2 ^ 64 - 1) 9 true)
    × (length_at (0x89 ∷ []) 0 ≡ Err Invalid)
    × (length_at (0x81 ∷ []) 0 ≡ Err Cut)

-- a label by its byte 7, and a file: a byte, a record whose length is `02`, one whose length is `8100`
abbrev pub label : ℕ → List ℕ
label b = 0x06 ∷ 0x0e ∷ 0x2b ∷ 0x34 ∷ 0x01 ∷ 0x01 ∷ 0x01 ∷ b ∷ 0x0e ∷ 0x15 ∷ 0x00 ∷ 0x01 ∷ 0x00 ∷ 0x01 ∷ 0x00 ∷ 0x00 ∷ []

abbrev pub file : List ℕ
file = 0x00 ∷ label 0x0d ++ (0x02 ∷ 0xaa ∷ 0xbb ∷ []) ++ label 0x0e ++ (0x81 ∷ 0x00 ∷ [])

-- a run of one KLV whose length is `80`, and items with the tag 3C0Ah: BER lengths `8102` and `02`, and a length of two bytes
abbrev pub run : List ℕ
run = label 0x0d ++ (0x80 ∷ [])

abbrev pub ber : List ℕ
ber = 0x3c ∷ 0x0a ∷ 0x81 ∷ 0x02 ∷ 0xaa ∷ 0xbb ∷ 0x3c ∷ 0x0a ∷ 0x02 ∷ 0xcc ∷ 0xdd ∷ []

abbrev pub two : List ℕ
two = 0x3c ∷ 0x0a ∷ 0x00 ∷ 0x02 ∷ 0xaa ∷ 0xbb ∷ []

-- the walk, the run and the items pass both facts up
abbrev pub PassedUp : Type 0
PassedUp =
    (finished file
    ≡ item 16 file (record { at = 1; value = 18; len = 2; size = 1; shortest = true })
    ∷ item 16 file (record { at = 20; value = 38; len = 0; size = 2; shortest = false })
    ∷ [])
    × (run_of run ≡ item 16 run (record { at = 0; value = 17; len = 0; size = 1; shortest = false }) ∷ [])
    × (items_of 2 true ber
    ≡ item 2 ber (record { at = 0; value = 4; len = 2; size = 2; shortest = false })
    ∷ item 2 ber (record { at = 6; value = 9; len = 2; size = 1; shortest = true })
    ∷ [])
    × (items_of 2 false two ≡ item 2 two (record { at = 0; value = 4; len = 2; size = 2; shortest = true }) ∷ [])
