-- Rows into columns and back: docs/RULES.md, "L12. Columns instead of rows". Where a byte of one layout stands in the other.
use Rattle.std.specs.Prelude.{ℕ, zero, suc, ◌+◌, ◌-◌, ◌*◌, ◌/◌, ◌%◌, List, [], ◌∷◌, ◌++◌, cond, length, get_or, ltb, Result, Ok, Err}
use Rattle.std.proofs.lemmas.List.Edits.{sets}
use Rattle.index.specs.declared.Layout.{Layout}
use Rattle.index.specs.declared.Layout.TheVariants.{Rows, Columns}
use Rattle.index_layouts.specs.declared.Longer.{Longer}

-- the byte i of rows stands here in columns
unfoldable pub in_columns : ℕ → ℕ → ℕ
in_columns room i = cond (ltb i (room * 16)) (cond (ltb (i % 16) 6) (i / 16 * 6 + i % 16) (room * 6 + i / 16 * 10 + (i % 16 - 6))) i

-- the byte i of columns stands here in rows
unfoldable pub in_rows : ℕ → ℕ → ℕ
in_rows room i = cond (ltb i (room * 6)) (i / 6 * 16 + i % 6) (cond (ltb i (room * 16)) ((i - room * 6) / 10 * 16 + 6 + (i - room * 6) % 10) i)

-- where the byte i of a layout comes from in the other one
abbrev pub came_from : Layout → ℕ → ℕ → ℕ
came_from Rows room i = in_columns room i
came_from Columns room i = in_rows room i

-- the first n bytes of the index in a layout, out of the other one
unfoldable pub turned_by : Layout → List ℕ → ℕ → List ℕ
turned_by to s zero = []
turned_by to s (suc n) = turned_by to s n ++ (get_or s (came_from to (length s / 16) n) 0 ∷ [])

-- the whole index in a layout
abbrev pub turned : Layout → List ℕ → List ℕ
turned to s = turned_by to s (length s)

-- 3 where the output is shorter
unfoldable pub turn_of : List ℕ → List ℕ → Result (Unit {0}) Longer
turn_of s o = cond (ltb (length o) (length s)) (Err (record { needed = length s })) (Ok tt)

unfoldable pub after_turn : Layout → List ℕ → List ℕ → List ℕ
after_turn to s o = cond (ltb (length o) (length s)) o (sets o 0 (turned to s))
