-- What the lent places hold before and after a call: include/brinethimble.h.
use Rattle.std.specs.Prelude.{ℕ, List, [], ◌∷◌, get_or, ltb, Option, Result, Ok, Err}
use Rattle.host_numbers.specs.Numbers.{mark}
use Rattle.index.specs.declared.Found.{Found}
use Rattle.host_entries.specs.Entries.{look_places}
use Rattle.host_entries.specs.Entries as entries
use Rattle.shared_index.specs.declared.Room.{Room}
use Rattle.shared_index.specs.declared.SharedError.{SharedError}
use Rattle.shared_index.specs.declared.SharedError.TheVariants.{Index, NoFile, Shares}

-- a room of seven places: the whole, the two shares, the two counts, and whether each file is open
abbrev pub room_of : List ℕ → Room
room_of l = record {
  whole = get_or l 0 0;
  first = record { share = get_or l 1 0; used = get_or l 3 0; opened = ltb 0 (get_or l 5 0) };
  second = record { share = get_or l 2 0; used = get_or l 4 0; opened = ltb 0 (get_or l 6 0) };
}

abbrev pub places_of : Room → List ℕ
places_of r =
    r.whole ∷ r.first.share ∷ r.second.share ∷ r.first.used ∷ r.second.used ∷ mark r.first.opened ∷ mark r.second.opened ∷ []

-- a refusal's number
abbrev pub refusal_of : SharedError → ℕ
refusal_of (Index e) = entries.refusal_of e
refusal_of NoFile = 19
refusal_of Shares = 20

-- 0, or the refusal's number
abbrev pub status_of : {A : Type 0} → Result A SharedError → ℕ
status_of (Ok x) = 0
status_of (Err e) = refusal_of e

-- the room that a call answers; a refusal leaves it as it was
abbrev pub room_places : Result Room SharedError → List ℕ → List ℕ
room_places (Ok n) room = places_of n
room_places (Err e) room = room

-- found, with the record; a refusal leaves the places as they were
abbrev pub find_places : Result (Option Found) SharedError → List ℕ → List ℕ
find_places (Ok f) out = look_places f
find_places (Err e) out = out
