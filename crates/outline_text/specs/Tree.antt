-- An outline, and what shows in it: docs/RULES.md, "L4. An outline".
use Rattle.std.specs.Prelude.{ℕ, List, [], ◌∷◌}
use Rattle.parts.specs.Answer.{Answer, is, none}
use Rattle.klv.specs.Item.{Item}

-- items one behind the other, each a leaf, or opened with an outline of its own, and then so many bytes that remain
pub data Outline : Type 0 where
  rest : ℕ → Outline
  leaf : Item → Outline → Outline
  opened : Item → Outline → Outline → Outline

-- an item by what its value opens, before what comes behind it
unfoldable pub shown : Item → Answer Outline → Outline → Outline
shown i none behind = leaf i behind
shown i (is inside) behind = opened i inside behind

-- items by what the value of each opens, and then so many bytes that remain
unfoldable pub outlined : (Item → Answer Outline) → List Item → ℕ → Outline
outlined opens [] remain = rest remain
outlined opens (i ∷ l) remain = shown i (opens i) (outlined opens l remain)
