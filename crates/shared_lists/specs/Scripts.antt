-- What hosts do with a shared room, one call after the other, and what they are answered: docs/RULES.md, "L11. Two uploads, one index room".
use Rattle.std.specs.Prelude.{ℕ, ◌<◌, ◌^◌, List, [], ◌∷◌, Option, Result, Ok, Err}
use Rattle.index.specs.declared.Entry.{Entry}
use Rattle.index.specs.declared.Found.{Found}
use Rattle.index.specs.declared.Layout.{Layout}
use Rattle.shared_index.specs.declared.Room.{Room}
use Rattle.shared_index.specs.declared.SharedError.{SharedError}
use Rattle.shared_index.specs.Rooms.{opened_of, closed_of}
use Rattle.shared_index.specs.Shared.{find_of, add_of, after_add}

pub data Call : Type 0 where
  open_file : ℕ → Call
  close-file : ℕ → Call
  add-to : ℕ → (e : Entry) → e.len < 2 ^ 64 → Call
  ask : ℕ → ℕ → Call

pub data Told : Type 0 where
  changed : Result Room SharedError → Told
  added : Result Room SharedError → Told
  looked : Result (Option Found) SharedError → Told

-- the room after an answer
unfoldable pub room_after : Result Room SharedError → Room → Room
room_after (Ok n) r = n
room_after (Err e) r = r

unfoldable pub told : Layout → List ℕ → Room → List Call → List Told
told l b r [] = []
told l b r (open_file f ∷ cs) = changed (opened_of r f) ∷ told l b (room_after (opened_of r f) r) cs
told l b r (close-file f ∷ cs) = changed (closed_of r f) ∷ told l b (room_after (closed_of r f) r) cs
told l b r (ask f pos ∷ cs) = looked (find_of l b r f pos) ∷ told l b r cs
told l b r (add-to f e h ∷ cs) = added (add_of l b r f e) ∷ told l (after_add l b r f e) (room_after (add_of l b r f e) r) cs
