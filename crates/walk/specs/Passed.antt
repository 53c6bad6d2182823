-- The bytes passed before a record: docs/RULES.md, "L9. The bytes that were passed". A cursor carries, beside its own place, the
-- one where walking last went on.
use Rattle.std.specs.Prelude.{ℕ, ◌-◌, min, List}
use Rattle.steps.specs.Told.{Told, ToldAt, found, nothing, refused}
use Rattle.steps.specs.Next.{Cursor, cursor}
use Rattle.steps.specs.Passed.{Passed}
use Rattle.klv.specs.Item.{Item}
use Rattle.walk.specs.Walk.{finished_step, arriving_step}

-- a place carried that lies past the cursor counts as the cursor
abbrev pub last_on : Cursor ℕ → ℕ
last_on k = min k.carried k.at

-- a record, walking having last gone on at g
abbrev pub counted : ℕ → Item → Passed Item
counted g i = record { it = i; passed = i.klv.at - g }

-- what a step from the cursor k says: a record with its count, and walking goes on behind it; nothing, and the place where
-- walking last went on is carried on; a refusal leaves the cursor as it was
unfoldable pub passing : Cursor ℕ → Told Item → ToldAt (Cursor ℕ) (Passed Item)
passing k (found i q) = found (counted (last_on k) i) (cursor q q)
passing k (nothing q) = nothing (cursor q (last_on k))
passing k (refused n q) = refused n k

-- the steps of both walks, with counts
abbrev pub finished_passing : List ℕ → ℕ → Cursor ℕ → ToldAt (Cursor ℕ) (Passed Item)
finished_passing s e k = passing k (finished_step s e k.at)

abbrev pub arriving_passing : ℕ → List ℕ → Cursor ℕ → ToldAt (Cursor ℕ) (Passed Item)
arriving_passing limit a k = passing k (arriving_step limit a k.at)
