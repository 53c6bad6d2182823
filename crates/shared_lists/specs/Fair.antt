-- Rooms that the calls make, and what one file can see of the other: docs/RULES.md, "L11. Two uploads, one index room".
use Rattle.std.specs.Prelude.{ℕ, ◌+◌, ◌/◌, ◌≤◌, ◌<◌, ◌^◌, ◌≡◌, Bool, true, false, not, List, length, Result, Ok, Err}
use Rattle.index.specs.declared.Entry.{Entry}
use Rattle.index.specs.declared.Layout.{Layout}
use Rattle.shared_index.specs.declared.Room.{Room}
use Rattle.index.specs.declared.IndexError.TheVariants.{Short, Field, Start, Order, Full}
use Rattle.shared_index.specs.declared.SharedError.{SharedError}
use Rattle.shared_index.specs.declared.SharedError.TheVariants.{Index, NoFile, Shares}
use Rattle.shared_index.specs.Rooms.{file_of, held_by, set_up_of, opened_of, closed_of}
use Rattle.shared_index.specs.Shared.{entries_of, add_of, after_add}

-- what the two hold or may still ask for is at most the whole
abbrev pub Fair : Room → Type 0
Fair r = held_by false r + held_by true r ≤ r.whole

-- the rooms and buffers that the calls make
pub data Made (l : Layout) : Room → List ℕ → Type 0 where
  sets_up : (b : List ℕ) (a c : ℕ) (r : Room) → set_up_of (length b / 16) a c ≡ Ok r → Made l r b
  opens : (b : List ℕ) (r : Room) (file : ℕ) (n : Room) → Made l r b → opened_of r file ≡ Ok n → Made l n b
  closes : (b : List ℕ) (r : Room) (file : ℕ) (n : Room) → Made l r b → closed_of r file ≡ Ok n → Made l n b
  adds : (b : List ℕ) (r : Room) (file : ℕ) (e : Entry) (n : Room) → Made l r b → e.len < 2 ^ 64 → add_of l b r file e ≡ Ok n → Made l n (after_add l b r file e)

-- the number of an answer
unfoldable pub number_of : Result Room SharedError → ℕ
number_of (Ok r) = 0
number_of (Err (Index Short)) = 1
number_of (Err (Index Field)) = 15
number_of (Err (Index Start)) = 16
number_of (Err (Index Order)) = 17
number_of (Err (Index Full)) = 18
number_of (Err NoFile) = 19
number_of (Err Shares) = 20

-- two rooms in which a file has the same list, and the same place in the whole
pub record Own (second : Bool) (l m : Layout) (r q : Room) (b c : List ℕ) : Type 0 where
  pub whole : r.whole ≡ q.whole
  pub file : file_of second r ≡ file_of second q
  pub list : entries_of l second r b ≡ entries_of m second q c

-- in which the other one's share and count are the same
pub record Other (second : Bool) (r q : Room) : Type 0 where
  pub share : (file_of (not second) r).share ≡ (file_of (not second) q).share
  pub used : (file_of (not second) r).used ≡ (file_of (not second) q).used
