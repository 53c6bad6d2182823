-- Where an entry stands: docs/RULES.md, "L10. An index beside the file". The bytes are only where the list of entries stands.
use Rattle.std.specs.Prelude.{ℕ, zero, suc, ◌+◌, ◌-◌, ◌*◌, ◌/◌, ◌%◌, ◌^◌, List, [], ◌∷◌, ◌++◌, Bool, true, false, cond, ltb}
use Rattle.std.proofs.lemmas.List.Edits.{sets}
use Rattle.parts.specs.Number.{number_at}
use Rattle.written_numbers.specs.Number.{bytes_of}
use Rattle.index.specs.declared.Entry.{Entry}
use Rattle.index.specs.declared.Layout.{Layout}
use Rattle.index.specs.declared.Layout.TheVariants.{Rows, Columns}

-- where the start of a slot's entry stands, and where the rest of it, with room for so many
abbrev pub start_place : Layout → ℕ → ℕ
start_place Rows s = s * 16
start_place Columns s = s * 6

abbrev pub rest_place : Layout → ℕ → ℕ → ℕ
rest_place Rows room s = s * 16 + 6
rest_place Columns room s = room * 6 + s * 10

-- the entry whose start is at p and whose rest at r: 48 bits start, 4 bits size, 12 bits group, 64 bits length
abbrev pub entry_at : List ℕ → ℕ → ℕ → Entry
entry_at b p r = record { start = number_at b p 6; size = number_at b r 2 / 4096; group = number_at b r 2 % 4096; len = number_at b (r + 2) 8 }

abbrev pub put_at : List ℕ → ℕ → ℕ → Entry → List ℕ
put_at b p r e = sets (sets (sets b p (bytes_of 6 e.start)) r (bytes_of 2 (e.size * 4096 + e.group))) (r + 2) (bytes_of 8 e.len)

-- the entry of a slot, and the bytes with an entry put there
abbrev pub slot_entry : Layout → ℕ → List ℕ → ℕ → Entry
slot_entry l room b s = entry_at b (start_place l s) (rest_place l room s)

abbrev pub put_slot : Layout → ℕ → List ℕ → ℕ → Entry → List ℕ
put_slot l room b s e = put_at b (start_place l s) (rest_place l room s) e

-- the slot of the entry k: from the first slot up, or from the last one down
abbrev pub slot_of : Bool → ℕ → ℕ → ℕ
slot_of false room k = k
slot_of true room k = room - 1 - k

abbrev pub nth : Layout → Bool → ℕ → List ℕ → ℕ → Entry
nth l down room b k = slot_entry l room b (slot_of down room k)

-- the list of the first n entries
unfoldable pub entries : Layout → Bool → ℕ → List ℕ → ℕ → List Entry
entries l down room b zero = []
entries l down room b (suc n) = entries l down room b n ++ (nth l down room b n ∷ [])

-- the greatest eight bytes at the place of a record that starts at or before a position: its start, and two bytes behind it
unfoldable pub most_of : ℕ → ℕ
most_of pos = cond (ltb pos (2 ^ 48)) (pos * 2 ^ 16 + (2 ^ 16 - 1)) (2 ^ 64 - 1)
