-- A room that two files share: docs/RULES.md, "L11. Two uploads, one index room". The second file is `true`: its records stand from the last slot down.
use Rattle.std.specs.Prelude.{ℕ, ◌+◌, ◌/◌, max, Bool, true, false, cond, not, ◌&&◌, ltb, leb, eqb, Result, Ok, Err}
use Rattle.shared_index.specs.declared.File.{File}
use Rattle.shared_index.specs.declared.Room.{Room}
use Rattle.shared_index.specs.declared.SharedError.{SharedError}
use Rattle.shared_index.specs.declared.SharedError.TheVariants.{NoFile, Shares}

-- one of the files
abbrev pub file_of : Bool → Room → File
file_of false r = r.first
file_of true r = r.second

-- the room with a file changed
abbrev pub with_file : Bool → Room → File → Room
with_file false r f = record { whole = r.whole; first = f; second = r.second }
with_file true r f = record { whole = r.whole; first = r.first; second = f }

-- a file opened or closed, with so many records
abbrev pub changed : Bool → Room → Bool → ℕ → Room
changed second r opened used = with_file second r (record { share = (file_of second r).share; used = used; opened = opened })

-- what a file has or may still ask for: its share is reserved, closed or not
abbrev pub held_by : Bool → Room → ℕ
held_by second r = max (file_of second r).used (file_of second r).share

-- an entry is free beyond what the other one holds
abbrev pub free_of : Bool → Room → Bool
free_of second r = ltb ((file_of second r).used + held_by (not second) r) r.whole

-- a file's number, and whether it is open
abbrev pub is_second : ℕ → Bool
is_second file = eqb file 1

unfoldable pub is_open : Room → ℕ → Bool
is_open r file = leb file 1 && (file_of (is_second file) r).opened

-- a buffer of so many bytes holds what a room states
unfoldable pub is_sound : Room → ℕ → Bool
is_sound r n = leb r.whole (n / 16) && leb (r.first.used + r.second.used) r.whole

-- Setting up: 20 where the shares are above the whole
abbrev pub fresh : ℕ → ℕ → ℕ → Room
fresh whole a c =
    record {
      whole = whole;
      first = record { share = a; used = 0; opened = false };
      second = record { share = c; used = 0; opened = false };
    }

unfoldable pub set_up_of : ℕ → ℕ → ℕ → Result Room SharedError
set_up_of whole a c = cond (leb (a + c) whole) (Ok (fresh whole a c)) (Err Shares)

-- Opening and closing: 19 where there is no such file, or it is open, or not
unfoldable pub opened_of : Room → ℕ → Result Room SharedError
opened_of r file = cond (leb file 1 && not (file_of (is_second file) r).opened) (Ok (changed (is_second file) r true 0)) (Err NoFile)

unfoldable pub closed_of : Room → ℕ → Result Room SharedError
closed_of r file = cond (is_open r file) (Ok (changed (is_second file) r false 0)) (Err NoFile)
