-- An index in a lent buffer: docs/RULES.md, "L10. An index beside the file". What is answered goes by the list; what is left in
-- the buffer goes by the answer.
use Rattle.std.specs.Prelude.{ℕ, ◌/◌, List, Bool, false, cond, ◌&&◌, length, ltb, leb, Option, Result, Ok, Err}
use Rattle.index.specs.declared.Entry.{Entry}
use Rattle.index.specs.declared.Layout.{Layout}
use Rattle.index.specs.declared.Found.{Found}
use Rattle.index.specs.declared.IndexError.{IndexError}
use Rattle.index.specs.declared.IndexError.TheVariants.{Short}
use Rattle.index.specs.Places.{slot_of, put_slot, entries}
use Rattle.index.specs.Lists.{look_in, add_to}

-- only what was added is written
unfoldable pub written : Result ℕ IndexError → Layout → Bool → ℕ → List ℕ → ℕ → Entry → List ℕ
written (Ok k) l down room b n e = put_slot l room b (slot_of down room n) e
written (Err r) l down room b n e = b

-- a buffer's room
abbrev pub room_of : List ℕ → ℕ
room_of b = length b / 16

-- the list of an index of n records
abbrev pub list_of : Layout → List ℕ → ℕ → List Entry
list_of l b n = entries l false (room_of b) b n

unfoldable pub find_of : Layout → List ℕ → ℕ → ℕ → Result (Option Found) IndexError
find_of l b n pos = cond (leb n (room_of b)) (Ok (look_in (list_of l b n) pos)) (Err Short)

unfoldable pub add_of : Layout → List ℕ → ℕ → Entry → Result ℕ IndexError
add_of l b n e = cond (leb n (room_of b)) (add_to (ltb n (room_of b)) (list_of l b n) e) (Err Short)

abbrev pub after_add : Layout → List ℕ → ℕ → Entry → List ℕ
after_add l b n e = written (add_of l b n e) l false (room_of b) b n e

-- The same of n records from the first slot of a room up, or from its last one down: docs/RULES.md, "L11. Two uploads, one index room"

-- a buffer holds the room, and the room so many records
unfoldable pub holds : ℕ → List ℕ → ℕ → Bool
holds room b n = leb room (room_of b) && leb n room

unfoldable pub find_from : Layout → Bool → ℕ → List ℕ → ℕ → ℕ → Result (Option Found) IndexError
find_from l down room b n pos = cond (holds room b n) (Ok (look_in (entries l down room b n) pos)) (Err Short)

-- a slot must be left, and it may be given out
unfoldable pub add_from : Layout → Bool → Bool → ℕ → List ℕ → ℕ → Entry → Result ℕ IndexError
add_from l down free room b n e = cond (holds room b n) (add_to (free && ltb n room) (entries l down room b n) e) (Err Short)

abbrev pub after_from : Layout → Bool → Bool → ℕ → List ℕ → ℕ → Entry → List ℕ
after_from l down free room b n e = written (add_from l down free room b n e) l down room b n e
