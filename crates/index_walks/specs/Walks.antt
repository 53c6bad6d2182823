-- Adding the records of a walk one after the other: docs/RULES.md, "L10. An index beside the file".
use Rattle.std.specs.Prelude.{ℕ, ◌≤◌, ◌^◌, ◌≡◌, true, ◌||◌, List, [], ◌∷◌, ◌++◌, length, ltb, eqb, Result, Ok, Err}
use Rattle.klv.specs.Item.{Item}
use Rattle.records.specs.Records.{finished_from, arriving_from}
use Rattle.index.specs.declared.Entry.{Entry}
use Rattle.index.specs.declared.IndexError.{IndexError}
use Rattle.index.specs.declared.IndexError.TheVariants.{Order}
use Rattle.index.specs.Lists.{add_to}

-- a record as an entry, its group told by g
abbrev pub entry_of : (Item → ℕ) → Item → Entry
entry_of g i = record { start = i.klv.at; size = i.klv.size; group = g i; len = i.klv.len }

unfoldable pub entries_for : (Item → ℕ) → List Item → List Entry
entries_for g [] = []
entries_for g (i ∷ is) = entry_of g i ∷ entries_for g is

-- the list after an answer: a refusal leaves it
unfoldable pub after_one : Result ℕ IndexError → List Entry → Entry → List Entry
after_one (Ok k) es e = es ++ (e ∷ [])
after_one (Err r) es e = es

-- adding with room for so many
abbrev pub add_one : ℕ → List Entry → Entry → Result ℕ IndexError
add_one room es e = add_to (ltb (length es) room) es e

unfoldable pub add_all : ℕ → List Entry → List Entry → List Entry
add_all room es [] = es
add_all room es (e ∷ ds) = add_all room (after_one (add_one room es e) es e) ds

-- none of them is refused for its order, 17
pub data InOrder (room : ℕ) : List Entry → List Entry → Type 0 where
  done : (es : List Entry) → InOrder room es []
  next : (es : List Entry) (e : Entry) (ds : List Entry) → (add_one room es e ≡ Err Order → ⊥) → InOrder room (after_one (add_one room es e) es e) ds → InOrder room es (e ∷ ds)

-- a group below 64, or 4095
abbrev pub Groups : (Item → ℕ) → Type 0
Groups g = (i : Item) → (ltb (g i) 64 || eqb (g i) 4095) ≡ true

-- Of either walk, from any cursor, with any room: none of its records is refused for its order; and with such groups, a file of at
-- most 2^48 bytes and room for all, all are listed
pub record WalksIndexed : Type 0 where
  pub finished_in_order : (g : Item → ℕ) (room : ℕ) (s : List ℕ) (e p : ℕ) → InOrder room [] (entries_for g (finished_from s e p))
  pub arriving_in_order : (g : Item → ℕ) (room limit : ℕ) (a : List ℕ) (p : ℕ) → InOrder room [] (entries_for g (arriving_from limit a p))
  pub finished-listed : (g : Item → ℕ) → Groups g → (room : ℕ) (s : List ℕ) (e p : ℕ) → e ≤ 2 ^ 48 → length (finished_from s e p) ≤ room
      → add_all room [] (entries_for g (finished_from s e p)) ≡ entries_for g (finished_from s e p)
  pub arriving-listed : (g : Item → ℕ) → Groups g → (room limit : ℕ) (a : List ℕ) (p : ℕ) → length a ≤ 2 ^ 48 → length (arriving_from limit a p) ≤ room
      → add_all room [] (entries_for g (arriving_from limit a p)) ≡ entries_for g (arriving_from limit a p)
