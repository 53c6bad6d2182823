-- A package set's Private Camera Metadata: docs/RULES.md, "Tables inside values", Canon.
use Rattle.std.specs.Prelude.{ℕ, List, [], ◌∷◌, ◌++◌, false, cond, length, take, eqb}
use Rattle.steps.specs.Listed.{list_from}
use Rattle.labels.specs.Label.{same_label}
use Rattle.klv.specs.declared.Klv.{Klv}
use Rattle.klv.specs.Item.{Item, tag_of, past}
use Rattle.items.specs.Items.{run_step, item_step}

-- PRIVATE_CAMERA_METADATA
abbrev pub private_metadata : List ℕ
private_metadata = 0x06 ∷ 0x0e ∷ 0x2b ∷ 0x34 ∷ 0x01 ∷ 0x01 ∷ 0x01 ∷ 0x0d ∷ 0x0e ∷ 0x15 ∷ 0x00 ∷ 0x01 ∷ 0x00 ∷ 0x01 ∷ 0x00 ∷ 0x00 ∷ []

-- a value, and where its run ends
pub record Entry : Type 0 where
  pub klv : Klv
  pub end : ℕ

abbrev pub entry : ℕ → Klv → Entry
entry end k = record { klv = k; end = end }

-- of a run that ends there, those of the label
unfoldable pub labelled : ℕ → List Item → List Entry
labelled end [] = []
labelled end (i ∷ more) =
    let rest = labelled end more in cond (same_label i.key private_metadata) (entry end i.klv ∷ rest) rest

-- in the run between two places
unfoldable pub in_run : List ℕ → ℕ → ℕ → List Entry
in_run s from end = labelled end (list_from (run_step (take end s)) (length (take end s)) from)

-- an 88h item's value is a run
unfoldable pub in_item : List ℕ → Item → List Entry
in_item s i = cond (eqb (tag_of i) 0x88) (in_run s i.klv.value (past i.klv)) []

unfoldable pub in_items : List ℕ → List Item → List Entry
in_items s [] = []
in_items s (i ∷ more) = in_item s i ++ in_items s more

-- a set's items have a tag of 1 and a length of 2: the values of those from a place on
unfoldable pub items_from : List ℕ → ℕ → List Entry
items_from s p = in_items s (list_from (item_step 1 false s) (length s) p)

-- the values from a cursor on: in what is left of its run, and in the items behind that
unfoldable pub values_from : List ℕ → ℕ → ℕ → List Entry
values_from s from end = in_run s from end ++ items_from s end

-- each value of a package set in turn
abbrev pub values_of : List ℕ → List Entry
values_of s = values_from s 0 0
