-- A batch of records in lent room: include/brinethimble.h. Each takes as many places as is said here; a refusal leaves all as it was.
use Rattle.std.specs.Prelude.{ℕ, ◌+◌, ◌/◌, List, [], ◌∷◌, length, set}
use Rattle.steps.specs.Told.{ToldAt, found, nothing, refused}
use Rattle.steps.specs.Next.{Cursor}
use Rattle.steps.specs.Passed.{Passed}
use Rattle.steps.specs.Listed.{at_most, end_at_most}
use Rattle.host_numbers.specs.Numbers.{mark}
use Rattle.klv.specs.declared.Klv.{Klv}
use Rattle.klv.specs.Item.{Item}
use Rattle.host_records.specs.declared.Batch.{Batch}

-- how many places a record takes
abbrev pub places_each : ℕ
places_each = 6

-- what a step says of a walk's records
abbrev pub RecordTold : Type 0
RecordTold = ToldAt (Cursor ℕ) (Passed Item)

-- a record's place, its value's place and length, the bytes of its length field and whether they are the shortest form, and the
-- bytes passed before it, from a place on
abbrev pub record_put : Klv → ℕ → ℕ → List ℕ → List ℕ
record_put k n at lent =
    set (set (set (set (set (set lent at k.at) (at + 1) k.value) (at + 2) k.len) (at + 3) k.size) (at + 4) (mark k.shortest)) (at + 5) n

-- records one behind the other from a place on
unfoldable pub records_put : List (Passed Item) → ℕ → List ℕ → List ℕ
records_put [] at lent = lent
records_put (c ∷ l) at lent = records_put l (at + places_each) (record_put c.it.klv c.passed at lent)

-- the steps from a cursor on that there is room for
unfoldable pub batch : (Cursor ℕ → RecordTold) → List ℕ → Cursor ℕ → List (Passed Item)
batch step lent k = at_most step (length lent / places_each) k

-- how many records that gives, and where the last of these steps leads
abbrev pub batch_at : ℕ → Cursor ℕ → Batch
batch_at n k = record { count = n; next = k.at; since = k.carried }

abbrev pub batch_of : (Cursor ℕ → RecordTold) → ℕ → Cursor ℕ → Batch
batch_of step room k = batch_at (length (at_most step room k)) (end_at_most step room k)

-- the lent room after a call: as it was where the step is refused
unfoldable pub batch_into : (Cursor ℕ → RecordTold) → Cursor ℕ → List ℕ → RecordTold → List ℕ
batch_into step k lent (found c q) = records_put (batch step lent k) 0 lent
batch_into step k lent (nothing q) = records_put (batch step lent k) 0 lent
batch_into step k lent (refused n q) = lent

-- the count, the next cursor and the place where walking last went on, likewise
abbrev pub batch_said : Batch → List ℕ
batch_said b = b.count ∷ b.next ∷ b.since ∷ []

unfoldable pub batch_places : (Cursor ℕ → RecordTold) → ℕ → Cursor ℕ → List ℕ → RecordTold → List ℕ
batch_places step room k out (found c q) = batch_said (batch_of step room k)
batch_places step room k out (nothing q) = batch_said (batch_of step room k)
batch_places step room k out (refused n q) = out
