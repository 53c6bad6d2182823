-- KLVs as bytes, and a run in shortest form: docs/RULES.md, "L8. Writers".
use Rattle.std.specs.Prelude.{ℕ, List, [], ◌∷◌, ◌++◌, Bool, true, ◌&&◌, length}
use Rattle.steps.specs.Listed.{end_from}
use Rattle.klv.specs.Item.{Item, value_of}
use Rattle.items.specs.Items.{run_step, run_of}
use Rattle.written_lengths.specs.Form.{form_of, shortest_size}

-- a key, the length of so many bytes, the value
unfoldable pub klv_bytes : List ℕ → ℕ → List ℕ → List ℕ
klv_bytes key size value = key ++ (form_of size (length value) ++ value)

-- an item of s with its length in the shortest form
unfoldable pub item_bytes : List ℕ → Item → List ℕ
item_bytes s i = klv_bytes i.key (shortest_size i.klv.len) (value_of s i)

unfoldable pub in_shortest : List ℕ → List Item → List ℕ
in_shortest s [] = []
in_shortest s (i ∷ more) = item_bytes s i ++ in_shortest s more

-- a whole run in shortest form
unfoldable pub rewritten : List ℕ → List ℕ
rewritten s = in_shortest s (run_of s)

-- the place behind the last KLV of the run
unfoldable pub run_end : List ℕ → ℕ
run_end s = end_from (run_step s) (length s) 0

-- each length was read as shortest
unfoldable pub all_shortest : List Item → Bool
all_shortest [] = true
all_shortest (i ∷ more) = i.klv.shortest && all_shortest more

-- what a list of KLVs says, wherever they stand: keys and values
pub record Pair : Type 0 where
  pub key : List ℕ
  pub value : List ℕ

unfoldable pub pairs_of : List ℕ → List Item → List Pair
pairs_of s [] = []
pairs_of s (i ∷ more) = record { key = i.key; value = value_of s i } ∷ pairs_of s more
