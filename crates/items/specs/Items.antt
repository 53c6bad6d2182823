-- Items one behind the other: docs/RULES.md, "The walk" (runs) and "Tables inside values" (local items).
use Rattle.std.specs.Prelude.{ℕ, ◌+◌, ◌-◌, List, Bool, true, cond, length, get_or, leb, eqb, Err, Ok, Result}
use Rattle.steps.specs.Told.{Told, found, nothing}
use Rattle.steps.specs.Listed.{list_from}
use Rattle.lengths.specs.declared.Field.{Field}
use Rattle.lengths.specs.declared.NoLength.{NoLength}
use Rattle.lengths.specs.declared.NoLength.TheVariants.{Cut, Invalid}
use Rattle.lengths.specs.Length.{length_at, two_bytes_at}
use Rattle.klv.specs.declared.Klv.{Klv}
use Rattle.items.specs.declared.Coding.{Coding}
use Rattle.klv.specs.Item.{Item, item, klv, past}

-- the length at a place, BER or of two bytes
unfoldable pub length_in : Bool → List ℕ → ℕ → Result Field NoLength
length_in ber s at = cond ber (length_at s at) (two_bytes_at s at)

-- a value that is whole gives the item, and the next one starts behind it
unfoldable pub by_value : ℕ → List ℕ → Klv → Told Item
by_value key s k = cond (leb k.len (length s - k.value)) (found (item key s k) (past k)) (nothing k.at)

-- a length that is not one ends the step at once
unfoldable pub by_length : ℕ → List ℕ → ℕ → Result Field NoLength → Told Item
by_length key s p (Ok f) = by_value key s (klv key p f)
by_length key s p (Err Cut) = nothing p
by_length key s p (Err Invalid) = nothing p

-- the item at p: a key or tag of `key` bytes of any kind, a length, a value
unfoldable pub item_step : ℕ → Bool → List ℕ → ℕ → Told Item
item_step key ber s p = cond (leb (p + key) (length s)) (by_length key s p (length_in ber s (p + key))) (nothing p)

-- a run: 16 bytes of any kind, a BER length, a value, repeated to the first that isn't whole
abbrev pub run_step : List ℕ → ℕ → Told Item
run_step s p = item_step 16 true s p

unfoldable pub run_of : List ℕ → List Item
run_of s = list_from (run_step s) (length s) 0

-- a set's items from its start
unfoldable pub items_of : ℕ → Bool → List ℕ → List Item
items_of tag ber s = list_from (item_step tag ber s) (length s) 0

-- a set's coding: tags of 2 bytes, and lengths of 2, or BER where the set's label byte 5 is 13h
unfoldable pub coding_of : List ℕ → Coding
coding_of label = record { tag = 2; ber = eqb (get_or label 5 0) 0x13 }
