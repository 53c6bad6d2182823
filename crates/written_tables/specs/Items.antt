-- Local items as bytes, tags and lengths of 2: docs/RULES.md, "L8. Writers".
use Rattle.std.specs.Prelude.{ℕ, ◌+◌, List, [], ◌∷◌, ◌++◌, Bool, true, ◌&&◌, leb, length}
use Rattle.std.proofs.lemmas.List.Edits.{sets}
use Rattle.klv.specs.Item.{Item, tag_of, value_of}
use Rattle.written_numbers.specs.Number.{bytes_of}

-- a tag and a length of two bytes
unfoldable pub good_item : ℕ → ℕ → Bool
good_item tag n = leb tag 0xffff && leb n 0xffff

unfoldable pub local_bytes : ℕ → List ℕ → List ℕ
local_bytes tag value = bytes_of 2 tag ++ (bytes_of 2 (length value) ++ value)

-- a tag and a value, as a set is given and as its items say
pub record Tagged : Type 0 where
  pub tag : ℕ
  pub value : List ℕ

unfoldable pub set_bytes : List Tagged → List ℕ
set_bytes [] = []
set_bytes (x ∷ more) = local_bytes x.tag x.value ++ set_bytes more

unfoldable pub good_set : List Tagged → Bool
good_set [] = true
good_set (x ∷ more) = good_item x.tag (length x.value) && good_set more

-- the room after items were put one behind the other from a place on
unfoldable pub put_set : List Tagged → List ℕ → ℕ → List ℕ
put_set [] o at = o
put_set (x ∷ more) o at = put_set more (sets o at (local_bytes x.tag x.value)) (at + length (local_bytes x.tag x.value))

unfoldable pub tagged_of : List ℕ → List Item → List Tagged
tagged_of s [] = []
tagged_of s (i ∷ more) = record { tag = tag_of i; value = value_of s i } ∷ tagged_of s more
