-- Worked numbers of docs/RULES.md, "L9. The bytes that were passed".
use Rattle.std.specs.Prelude.{ℕ, ◌+◌, ◌≡◌, List, [], ◌∷◌, ◌++◌, Bool, true, false, replicate, take}
use Rattle.steps.specs.Told.{found, nothing}
use Rattle.steps.specs.Next.{cursor}
use Rattle.steps.specs.Passed.{Passed}
use Rattle.klv.specs.declared.Klv.{Klv}
use Rattle.klv.specs.Item.{Item, item}
use Rattle.walk.specs.Passed.{finished_passing, arriving_passing}
use Rattle.records.specs.Passed.{at_first, finished_passed, ends_passed, spans}
use Rattle.frame_walks.specs.Labels.{frame_data}
use Rattle.frame_walks.specs.Frames.{carried, framed, FrameTold, arri_step}
use Rattle.worked.specs.LengthForms.{label, file}

-- a record with a length field of one byte: its place, its value's place, its length; and the bytes passed before it
abbrev pub short : ℕ → ℕ → ℕ → Klv
short at value len = record { at = at; value = value; len = len; size = 1; shortest = true }

abbrev pub counted : List ℕ → Klv → ℕ → Passed Item
counted s k n = record { it = item 16 s k; passed = n }

-- five bytes that are lost, a record, three that are lost, a record
abbrev pub torn : List ℕ
torn = replicate 5 0x00 ++ label 0x0d ++ (0x02 ∷ 0xaa ∷ 0xbb ∷ 0x99 ∷ 0x99 ∷ 0x99 ∷ []) ++ label 0x0d ++ (0x00 ∷ [])

-- counts of 5 and 3: with labels, length fields and values they add up to the end; and the listing's example, 1 and 0
abbrev pub Counts : Type 0
Counts =
    (finished_passed torn 44 at_first ≡ counted torn (short 5 22 2) 5 ∷ counted torn (short 27 44 0) 3 ∷ [])
    × (spans (finished_passed torn 44 at_first) ≡ 44)
    × (ends_passed torn 44 at_first ≡ cursor 44 44)
    × (finished_passed file 38 at_first
    ≡ counted file (short 1 18 2) 1
    ∷ counted file (record { at = 20; value = 38; len = 0; size = 2; shortest = false }) 0
    ∷ [])

-- a carried place past the cursor counts as the cursor, and is handed back so
abbrev pub PastTheCursor : Type 0
PastTheCursor =
    (finished_passing file 38 (cursor 0 10) ≡ found (counted file (short 1 18 2) 1) (cursor 20 20))
    × (finished_passing (replicate 6 0x00) 6 (cursor 5 10) ≡ nothing (cursor 5 5))

-- three bytes and a label arrive: it waits at 3, walking having last gone on at 0; one byte more, and the record has the count 3
abbrev pub arrives : List ℕ
arrives = replicate 3 0x00 ++ label 0x0d

abbrev pub Waits : Type 0
Waits =
    (arriving_passing 99 arrives (cursor 0 0) ≡ nothing (cursor 3 0))
    × (arriving_passing 99 (arrives ++ (0x00 ∷ [])) (cursor 3 0) ≡ found (counted (arrives ++ (0x00 ∷ [])) (short 3 20 0) 3) (cursor 20 20))

-- an over-long element of ARRI's at 0, its value's 8,193 bytes from 19 on, with a frame at 100 in it and another behind it
abbrev pub empty : List ℕ
empty = frame_data ++ (0x00 ∷ [])

abbrev pub begun : List ℕ
begun = frame_data ++ (0x82 ∷ 0x20 ∷ 0x01 ∷ []) ++ replicate 81 0x00 ++ empty

abbrev pub long : List ℕ
long = begun ++ replicate 8095 0x00 ++ empty

abbrev pub outer : Klv
outer = record { at = 0; value = 19; len = 8193; size = 3; shortest = true }

-- what a step shows: a frame by its number, over-long or not, its count, and the place where walking goes on
abbrev pub shown : ℕ → Klv → Bool → ℕ → ℕ → FrameTold
shown n k overlong passed next =
    found (record { it = framed (record { number = n; element = k; overlong = overlong }); passed = passed }) (cursor next (carried next (n + 1)))

abbrev pub OverLong : Type 0
OverLong =
    (arri_step long 8229 (cursor 0 (carried 0 0)) ≡ shown 0 outer true 0 19)
    × (arri_step long 8229 (cursor 19 (carried 19 1)) ≡ shown 1 (short 100 117 0) false 81 117)
    × (arri_step long 8229 (cursor 117 (carried 117 2)) ≡ shown 2 (short 8212 8229 0) false 8095 8229)

-- 8,000 bytes of it have arrived: within a limit of 8,212 the outer one may still come; below that it is none, and walking has not
-- gone on at its value
abbrev pub Torn : Type 0
Torn =
    (arriving_passing 8212 (take 8000 long) (cursor 0 0) ≡ nothing (cursor 0 0))
    × (arriving_passing 8211 (take 8000 long) (cursor 0 0) ≡ found (counted (take 8000 long) (short 100 117 0) 100) (cursor 117 117))
