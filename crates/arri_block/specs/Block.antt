-- ARRI's 256 bytes in an element: docs/RULES.md, "Tables inside values". Each list ends at the first item that isn't
-- whole, so that one met before a block is nothing.
use Rattle.std.specs.Prelude.{ℕ, ◌+◌, ◌≤◌, ◌≡◌, List, [], ◌∷◌, false, cond, take, drop, leb, eqb, Option, Some, None}
use Rattle.std.specs.Option.{option_or}
use Rattle.labels.specs.Label.{same_label}
use Rattle.klv.specs.declared.Klv.{Klv}
use Rattle.klv.specs.Item.{Item, tag_of, value_of}
use Rattle.items.specs.Items.{run_of, items_of}

-- the lens unit set (RDD 18)
abbrev pub lens_unit_set : List ℕ
lens_unit_set =
    0x06 ∷ 0x0e ∷ 0x2b ∷ 0x34 ∷ 0x02 ∷ 0x53 ∷ 0x01 ∷ 0x01 ∷ 0x0c ∷ 0x02 ∷ 0x01 ∷ 0x01 ∷ 0x01 ∷ 0x01 ∷ 0x00 ∷ 0x00 ∷ []

-- a block of the bytes that start at a place
unfoldable pub placed_at : ℕ → Option ℕ → Option ℕ
placed_at from (Some p) = Some (from + p)
placed_at from None = None

-- the first block is the answer
unfoldable pub first_of : (Item → Option ℕ) → List Item → Option ℕ
first_of look [] = None
first_of look (i ∷ l) = option_or (look i) (first_of look l)

-- an item's first 256 bytes, if it has them
unfoldable pub first_bytes : Klv → Option ℕ
first_bytes k = cond (leb 256 k.len) (Some k.value) None

-- a set's first item 8200h gives them
unfoldable pub in_items : List Item → Option ℕ
in_items [] = None
in_items (i ∷ l) = cond (eqb (tag_of i) 0x8200) (first_bytes i.klv) (in_items l)

-- tags and lengths of 2
unfoldable pub in_set : List ℕ → Option ℕ
in_set s = in_items (items_of 2 false s)

-- each lens unit set of a run
unfoldable pub in_run_item : List ℕ → Item → Option ℕ
in_run_item s i = cond (same_label i.key lens_unit_set) (placed_at i.klv.value (in_set (value_of s i))) None

unfoldable pub in_run : List ℕ → Option ℕ
in_run s = first_of (in_run_item s) (run_of s)

-- in each 88h item a run is read
unfoldable pub in_element_item : List ℕ → Item → Option ℕ
in_element_item s i = cond (eqb (tag_of i) 0x88) (placed_at i.klv.value (in_run (value_of s i))) None

-- an element's items have a tag of 1 and a length of 2
unfoldable pub block_of : List ℕ → Option ℕ
block_of s = first_of (in_element_item s) (items_of 1 false s)

-- the block's bytes, none where there is None
unfoldable pub bytes_of : List ℕ → Option ℕ → List ℕ
bytes_of s (Some p) = take 256 (drop p s)
bytes_of s None = []

-- a block ends by e
abbrev pub Ends : Option ℕ → ℕ → Type 0
Ends b e = (p : ℕ) → b ≡ Some p → p + 256 ≤ e
