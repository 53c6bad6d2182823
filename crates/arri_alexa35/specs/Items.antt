-- The items of an ALEXA 35's frame metadata, in order: docs/RULES.md, "Frame values".
use Rattle.std.specs.Prelude.{ℕ, List, [], ◌∷◌, ◌++◌, map}
use Rattle.klv.specs.Item.{Item, value_of}
use Rattle.items.specs.Items.{run_of}
use Rattle.arri_alexa35_items.specs.Kinds.{number_in}
use Rattle.arri_alexa35_values.specs.Said.{Said, said}

-- a set is a run of items
abbrev pub item_of : List ℕ → Item → Said
item_of set i = said (number_in i.key) (value_of set i)

unfoldable pub in_set : List ℕ → List Said
in_set set = map (item_of set) (run_of set)

-- an element is a run of sets, whatever their labels
unfoldable pub in_sets : List ℕ → List Item → List Said
in_sets element [] = []
in_sets element (i ∷ l) = in_set (value_of element i) ++ in_sets element l

unfoldable pub said_in : List ℕ → List Said
said_in element = in_sets element (run_of element)
