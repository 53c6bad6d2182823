-- The worked numbers of docs/RULES.md, "L12. Columns instead of rows".
use Rattle.std.specs.Prelude.{◌≡◌, List, [], ◌∷◌, ◌++◌, ℕ, replicate, Some, Ok, Err}
use Rattle.index.specs.declared.Layout.TheVariants.{Rows, Columns}
use Rattle.index.specs.Lists.{found_at}
use Rattle.index.specs.Index.{find_of, after_add}
use Rattle.index_layouts.specs.Turning.{turned, turn_of, after_turn}
use Rattle.worked.specs.Indexes.{one, two, rows}

-- the two rows of L10's example with a byte behind them, and the same in columns: starts, rests, the byte
abbrev pub in_rows : List ℕ
in_rows = rows ++ (0x77 ∷ [])

abbrev pub in_columns : List ℕ
in_columns =
    (0 ∷ 0 ∷ 0 ∷ 0 ∷ 0 ∷ 1 ∷ []) ++ (0 ∷ 0 ∷ 0 ∷ 0 ∷ 0 ∷ 20 ∷ [])
    ++ (0x10 ∷ 0 ∷ 0 ∷ 0 ∷ 0 ∷ 0 ∷ 0 ∷ 0 ∷ 0 ∷ 2 ∷ []) ++ (0x20 ∷ replicate 9 0) ++ (0x77 ∷ [])

pub record TurnedColumns : Type 0 where
  pub to_columns : turned Columns in_rows ≡ in_columns
  pub to_rows : turned Rows in_columns ≡ in_rows
  pub added_in_columns : after_add Columns (after_add Columns (replicate 32 0 ++ (0x77 ∷ [])) 0 one) 1 two ≡ in_columns
  pub found_in_columns : find_of Columns in_columns 2 19 ≡ Ok (Some (found_at 0 one))
  pub nothing_of_nothing : turned Columns [] ≡ []
  pub no_room : turn_of in_rows (replicate 32 0) ≡ Err (record { needed = 33 })
  pub room-left : after_turn Columns in_rows (replicate 32 5) ≡ replicate 32 5
