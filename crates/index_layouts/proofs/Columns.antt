-- L12's sentences hold. Assumes nothing.
use Prim.Native.Nat.{ℕ, ◌/◌}
use mathlib.Core.Path.{ap}
use lib.ListN.{length}
use Rattle.index.specs.declared.Layout.TheVariants.{Rows, Columns}
use Rattle.index_layouts.specs.Turning.{turned}
use Rattle.index_layouts.specs.Columns.{InColumns}
use Rattle.index_layouts.proofs.Turns.{turned-length, rows_back, columns_back, after-whole, list_columns, list-rows}
use Rattle.index_layouts.proofs.Layouts.{told_same, scripts_same}

pub in-columns : InColumns
in-columns = record {
  answers = scripts_same;
  turned_to_columns = λ s n h cs. told_same Columns Rows (turned Columns s) s (ap (λ (k : ℕ). k / 16) (turned-length Columns s (length s))) n (list_columns s n h) cs;
  turned_to_rows = λ s n h cs. told_same Rows Columns (turned Rows s) s (ap (λ (k : ℕ). k / 16) (turned-length Rows s (length s))) n (list-rows s n h) cs;
  lists_in_columns = list_columns;
  lists_in_rows = list-rows;
  rows_again = rows_back;
  columns_again = columns_back;
  whole = after-whole;
}
