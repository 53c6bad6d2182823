-- The lists of records with the bytes passed before each: docs/RULES.md, "L9. The bytes that were passed".
use Rattle.std.specs.Prelude.{ℕ, ◌+◌, ◌≤◌, ◌≡◌, List, [], ◌∷◌, length}
use Rattle.steps.specs.Tells.{Said, tells}
use Rattle.steps.specs.Next.{Cursor, cursor, told_end}
use Rattle.steps.specs.Passed.{Passed}
use Rattle.steps.specs.Steps.{Steps}
use Rattle.klv.specs.Item.{Item, past}
use Rattle.walk.specs.Walk.{finished_by, stepped}
use Rattle.walk.specs.Passed.{last_on, counted, finished_passing, arriving_passing}
use Rattle.records.specs.Records.{finished_from, finished_told, arriving_told, waits_told}

-- of each record its count, walking having last gone on at g; after it that place is where its value ends
abbrev pub counting : ℕ → Item → Said ℕ (Passed Item)
counting g i = tells (counted g i) (stepped i)

-- at first it is 0
abbrev pub at_first : Cursor ℕ
at_first = cursor 0 0

-- a cursor as it counts
abbrev pub as_counted : Cursor ℕ → Cursor ℕ
as_counted k = cursor k.at (last_on k)

-- the records of the finished walk of s with the end e, from a cursor on, and the cursor where it is over
abbrev pub finished_passed : List ℕ → ℕ → Cursor ℕ → List (Passed Item)
finished_passed s e k = finished_told stepped counting s e (as_counted k)

abbrev pub ends_passed : List ℕ → ℕ → Cursor ℕ → Cursor ℕ
ends_passed s e k = told_end counting (finished_by stepped s e) e (as_counted k)

-- the arriving list of the bytes a within a limit, and the cursor where it waits
abbrev pub arriving_passed : ℕ → List ℕ → Cursor ℕ → List (Passed Item)
arriving_passed limit a k = arriving_told stepped counting limit a (as_counted k)

abbrev pub waits_passed : ℕ → List ℕ → Cursor ℕ → Cursor ℕ
waits_passed limit a k = waits_told stepped counting limit a (as_counted k)

-- Stepping gives these lists, counts included
abbrev pub FinishedPassing : Type 0
FinishedPassing = (s : List ℕ) (e : ℕ) → e ≤ length s → Steps (finished_passing s e) (finished_passed s e) (ends_passed s e)

abbrev pub ArrivingPassing : Type 0
ArrivingPassing = (limit : ℕ) (a : List ℕ) → length a ≤ limit → Steps (arriving_passing limit a) (arriving_passed limit a) (waits_passed limit a)

-- In the plain finished walk counts, labels, length fields and values add up to the last record's end

-- counts, labels of 16 bytes, length fields and values
unfoldable pub spans : List (Passed Item) → ℕ
spans [] = 0
spans (c ∷ l) = c.passed + 16 + c.it.klv.size + c.it.klv.len + spans l

-- the end of the last record, or g if there is none
unfoldable pub last_end : ℕ → List Item → ℕ
last_end g [] = g
last_end g (i ∷ l) = last_end (past i.klv) l

abbrev pub AddsUp : Type 0
AddsUp = (s : List ℕ) (e : ℕ) → spans (finished_passed s e at_first) ≡ last_end 0 (finished_from s e 0)
