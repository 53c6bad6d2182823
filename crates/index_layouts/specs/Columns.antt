-- L12's sentences: docs/RULES.md, "L12. Columns instead of rows".
use Rattle.std.specs.Prelude.{ℕ, ◌≤◌, ◌≡◌, List, length}
use Rattle.index.specs.declared.Layout.{Layout}
use Rattle.index.specs.declared.Layout.TheVariants.{Rows, Columns}
use Rattle.index.specs.Index.{room_of, list_of}
use Rattle.index_layouts.specs.Turning.{turned, after_turn}
use Rattle.index_layouts.specs.Scripts.{Call, told}

pub record InColumns : Type 0 where
  -- every call answers as it did on rows, whatever was called before
  pub answers : (l m : Layout) (b c : List ℕ) → room_of b ≡ room_of c → (cs : List Call) → told l b 0 cs ≡ told m c 0 cs
  -- and so it does where rows were turned into columns, or columns into rows, in between
  pub turned_to_columns : (s : List ℕ) (n : ℕ) → n ≤ room_of s → (cs : List Call) → told Columns (turned Columns s) n cs ≡ told Rows s n cs
  pub turned_to_rows : (s : List ℕ) (n : ℕ) → n ≤ room_of s → (cs : List Call) → told Rows (turned Rows s) n cs ≡ told Columns s n cs
  -- which list the same records
  pub lists_in_columns : (s : List ℕ) (n : ℕ) → n ≤ room_of s → list_of Columns (turned Columns s) n ≡ list_of Rows s n
  pub lists_in_rows : (s : List ℕ) (n : ℕ) → n ≤ room_of s → list_of Rows (turned Rows s) n ≡ list_of Columns s n
  -- turning and turning back gives the same bytes
  pub rows_again : (s : List ℕ) → turned Rows (turned Columns s) ≡ s
  pub columns_again : (s : List ℕ) → turned Columns (turned Rows s) ≡ s
  -- a room that is as long is the turned index
  pub whole : (to : Layout) (s o : List ℕ) → length o ≡ length s → after_turn to s o ≡ turned to s
