-- Items, sets and primers that are written and read: docs/RULES.md, "L8. Writers".
use Rattle.std.specs.Prelude.{ℕ, ◌+◌, ◌*◌, ◌≤◌, ◌<◌, ◌≡◌, List, true, false, length, take, drop}
use Rattle.std.proofs.lemmas.List.Edits.{sets}
use Rattle.steps.specs.Told.{found}
use Rattle.lengths.specs.Length.{two_field}
use Rattle.klv.specs.Item.{Item, item, klv, tag_of, value_of}
use Rattle.items.specs.Items.{item_step, items_of}
use Rattle.primer.specs.Primer.{entry_of}
use Rattle.primer.specs.LastWins.{place}
use Rattle.written_tables.specs.Items.{good_item, local_bytes, Tagged, set_bytes, good_set, put_set, tagged_of}
use Rattle.written_tables.specs.Primer.{good_primer, primer_bytes, last_tag}

-- the item at a place whose value has so many bytes, and the place behind it
abbrev pub item_of : List ℕ → ℕ → ℕ → Item
item_of t at n = item 2 t (klv 2 at (two_field n))

abbrev pub next_of : ℕ → ℕ → ℕ
next_of at n = at + 2 + 2 + n

-- a step over a set's items finds at a place of t the item of that tag and value
pub record Back (t : List ℕ) (at tag : ℕ) (value : List ℕ) : Type 0 where
  pub step : item_step 2 false t at ≡ found (item_of t at (length value)) (next_of at (length value))
  pub tag_is : tag_of (item_of t at (length value)) ≡ tag
  pub value-is : value_of t (item_of t at (length value)) ≡ value

-- so it is where that item was written
abbrev pub ItemsBack : Type 0
ItemsBack =
    (o : List ℕ) (at tag : ℕ) (value : List ℕ) → good_item tag (length value) ≡ true → at + length (local_bytes tag value) ≤ length o
    → Back (sets o at (local_bytes tag value)) at tag value

-- items that are put one behind the other make a set, which reads as the tags and values that it was given
pub record SetBack (l : List Tagged) : Type 0 where
  pub put : (o : List ℕ) (at : ℕ) → at + length (set_bytes l) ≤ length o → take (length (set_bytes l)) (drop at (put_set l o at)) ≡ set_bytes l
  pub reads : tagged_of (set_bytes l) (items_of 2 false (set_bytes l)) ≡ l

abbrev pub SetsBack : Type 0
SetsBack = (l : List Tagged) → good_set l ≡ true → SetBack l

-- a primer reads as the last entry of every tag, and each entry's label is the one that it was given
pub record PrimerBack (tags labels : List ℕ) : Type 0 where
  pub last : (tag : ℕ) → entry_of (primer_bytes tags labels) tag ≡ last_tag tags tag (length tags)
  pub label : (k : ℕ) → k < length tags → take 16 (drop (place k + 2) (primer_bytes tags labels)) ≡ take 16 (drop (16 * k) labels)

abbrev pub PrimersBack : Type 0
PrimersBack = (tags labels : List ℕ) → good_primer tags labels ≡ true → PrimerBack tags labels
