-- The worked numbers of docs/RULES.md, "L11. Two uploads, one index room".
use Rattle.std.specs.Prelude.{ℕ, ◌≡◌, Bool, true, false, List, ◌++◌, replicate, Some, None, Ok, Err}
use Rattle.index.specs.declared.Layout.TheVariants.{Rows, Columns}
use Rattle.index.specs.Lists.{found_at}
use Rattle.index_layouts.specs.Turning.{turned}
use Rattle.shared_index.specs.declared.Room.{Room}
use Rattle.index.specs.declared.IndexError.TheVariants.{Short, Field, Order, Full}
use Rattle.shared_index.specs.declared.SharedError.TheVariants.{Index, NoFile, Shares}
use Rattle.shared_index.specs.Rooms.{set_up_of, opened_of, closed_of}
use Rattle.shared_index.specs.Shared.{find_of, add_of, after_add}
use Rattle.worked.specs.Indexes.{entry, one, two, one_row, two_row}

-- a room of four entries with shares of 1 and 2, of which the files use a and b
abbrev pub room : ℕ → ℕ → Bool → Bool → Room
room a b x y = record { whole = 4; first = record { share = 1; used = a; opened = x }; second = record { share = 2; used = b; opened = y } }

-- two records of file 0, and one of file 1 in the last row
abbrev pub buffer : List ℕ
buffer = one_row ++ (two_row ++ (replicate 16 0 ++ one_row))

pub record SharedRoom : Type 0 where
  pub shares_above : set_up_of 4 3 2 ≡ Err Shares
  pub set-up : set_up_of 4 1 2 ≡ Ok (room 0 0 false false)
  -- opening and closing
  pub opened : opened_of (room 0 0 false false) 0 ≡ Ok (room 0 0 true false)
  pub twice : opened_of (room 0 0 true false) 0 ≡ Err NoFile
  pub no_such_file : opened_of (room 0 0 true false) 2 ≡ Err NoFile
  pub closed : closed_of (room 2 2 true true) 0 ≡ Ok (room 0 2 false true)
  pub not_open : closed_of (room 0 2 false true) 0 ≡ Err NoFile
  -- 19 before 15
  pub not-added : add_of Rows buffer (room 0 0 true false) 1 (entry 0 0 0 0) ≡ Err NoFile
  pub third-file : add_of Rows buffer (room 0 0 true false) 2 (entry 0 1 0 0) ≡ Err NoFile
  pub bad_field : add_of Rows buffer (room 0 0 true false) 0 (entry 0 0 0 0) ≡ Err (Index Field)
  -- file 0 above its share: two entries, and not the third, though two are free
  pub second_of_0 : add_of Rows buffer (room 1 0 true false) 0 two ≡ Ok (room 2 0 true false)
  pub third_of_0 : add_of Rows buffer (room 2 0 true false) 0 (entry 38 1 0 0) ≡ Err (Index Full)
  pub overlapping : add_of Rows buffer (room 2 0 true false) 0 (entry 19 1 0 0) ≡ Err (Index Order)
  -- file 1 below its share, and from the last entry down
  pub first_of_1 : add_of Rows (one_row ++ (two_row ++ replicate 32 0)) (room 2 0 true true) 1 one ≡ Ok (room 2 1 true true)
  pub last_row : after_add Rows (one_row ++ (two_row ++ replicate 32 0)) (room 2 0 true true) 1 one ≡ buffer
  pub third_of_1 : add_of Rows buffer (room 2 2 true true) 1 (entry 38 1 0 0) ≡ Err (Index Full)
  -- once 0 is closed, all but its share is given out
  pub after-closing : add_of Rows buffer (room 0 2 false true) 1 (entry 38 1 0 0) ≡ Ok (room 0 3 false true)
  pub share-kept : add_of Rows buffer (room 0 3 false true) 1 (entry 38 1 0 0) ≡ Err (Index Full)
  -- each file is asked for its own
  pub found_in_0 : find_of Rows buffer (room 2 1 true true) 0 20 ≡ Ok (Some (found_at 1 two))
  pub found_in_1 : find_of Rows buffer (room 2 1 true true) 1 20 ≡ Ok None
  pub in-columns : find_of Columns (turned Columns buffer) (room 2 1 true true) 1 19 ≡ Ok (Some (found_at 0 one))
  pub asked_of_none : find_of Rows buffer (room 2 1 true true) 2 19 ≡ Err NoFile
  -- a room that states more than the buffer holds
  pub made_up : find_of Rows buffer (room 3 2 true true) 0 19 ≡ Err (Index Short)
