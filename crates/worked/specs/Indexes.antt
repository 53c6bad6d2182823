-- The worked numbers of docs/RULES.md, "L10. An index beside the file".
use Rattle.std.specs.Prelude.{ℕ, ◌-◌, ◌^◌, ◌≡◌, List, [], ◌∷◌, ◌++◌, replicate, Some, None, Ok, Err}
use Rattle.tally.specs.Adding.{group_at}
use Rattle.index.specs.declared.Entry.{Entry}
use Rattle.index.specs.declared.Layout.TheVariants.{Rows}
use Rattle.index.specs.declared.IndexError.TheVariants.{Short, Field, Start, Order, Full}
use Rattle.index.specs.Lists.{found_at}
use Rattle.index.specs.Index.{find_of, add_of, after_add}

abbrev pub entry : ℕ → ℕ → ℕ → ℕ → Entry
entry s z g n = record { start = s; size = z; group = g; len = n }

abbrev pub one : Entry
one = entry 1 1 0 2

abbrev pub two : Entry
two = entry 20 2 0 0

abbrev pub one_row : List ℕ
one_row = 0 ∷ 0 ∷ 0 ∷ 0 ∷ 0 ∷ 1 ∷ 0x10 ∷ 0 ∷ 0 ∷ 0 ∷ 0 ∷ 0 ∷ 0 ∷ 0 ∷ 0 ∷ 2 ∷ []

abbrev pub two_row : List ℕ
two_row = 0 ∷ 0 ∷ 0 ∷ 0 ∷ 0 ∷ 20 ∷ 0x20 ∷ 0 ∷ 0 ∷ 0 ∷ 0 ∷ 0 ∷ 0 ∷ 0 ∷ 0 ∷ 0 ∷ []

abbrev pub rows : List ℕ
rows = one_row ++ two_row

-- a record that is longer than any file
abbrev pub long : List ℕ
long = replicate 6 0 ++ (0x10 ∷ 0 ∷ replicate 8 0xff) ++ replicate 16 0

pub record Indexes : Type 0 where
  -- two records that touch, and one of all bits
  pub first_row : after_add Rows (replicate 32 0) 0 one ≡ one_row ++ replicate 16 0
  pub second_row : after_add Rows (one_row ++ replicate 16 0) 1 two ≡ rows
  pub all-bits : after_add Rows (replicate 16 0) 0 (entry (2 ^ 48 - 1) 9 4095 (2 ^ 64 - 1)) ≡ replicate 6 0xff ++ (0x9f ∷ replicate 9 0xff)
  -- what covers a position
  pub before-all : find_of Rows rows 2 0 ≡ Ok None
  pub first_byte : find_of Rows rows 2 1 ≡ Ok (Some (found_at 0 one))
  pub in-the-value : find_of Rows rows 2 17 ≡ Ok (Some (found_at 0 one))
  pub last_byte : find_of Rows rows 2 19 ≡ Ok (Some (found_at 0 one))
  pub next_start : find_of Rows rows 2 20 ≡ Ok (Some (found_at 1 two))
  pub empty-value : find_of Rows rows 2 37 ≡ Ok (Some (found_at 1 two))
  pub past_all : find_of Rows rows 2 38 ≡ Ok None
  pub no_wrap : find_of Rows long 1 (2 ^ 64 - 1) ≡ Ok (Some (found_at 0 (entry 0 1 0 (2 ^ 64 - 1))))
  -- refusals, the lowest first
  pub asked_for_three : find_of Rows rows 3 0 ≡ Err Short
  pub short : add_of Rows rows 3 (entry 0 0 0 0) ≡ Err Short
  pub size_0 : add_of Rows rows 2 (entry (2 ^ 48) 0 0 0) ≡ Err Field
  pub size_10 : add_of Rows rows 2 (entry 38 10 0 0) ≡ Err Field
  pub group_64 : add_of Rows rows 2 (entry 38 1 64 0) ≡ Err Field
  pub start_of_2_to_48 : add_of Rows long 1 (entry (2 ^ 48) 1 0 0) ≡ Err Start
  pub overlapping : add_of Rows rows 2 (entry 19 1 0 0) ≡ Err Order
  pub full : add_of Rows rows 2 (entry 38 1 4095 0) ≡ Err Full
  pub left : after_add Rows rows 2 (entry 19 1 0 0) ≡ rows
  -- a record's group, of a tally with none
  pub group_of_none : group_at [] [] 64 0 ≡ 4095
