-- What a step says: docs/RULES.md, "What a call can say".
use Rattle.std.specs.Prelude.{ℕ}

-- By the table's number, with a cursor of type C: 0 with an item and the cursor to go on from; 0 with nothing, where the
-- walk is over or waits, and the cursor there; a refusal's number, with no item and the cursor as it was
pub data ToldAt (C A : Type 0) : Type 0 where
  found : A → C → ToldAt C A
  nothing : C → ToldAt C A
  refused : ℕ → C → ToldAt C A

-- where the cursor is a place
abbrev pub Told : Type 0 → Type 0
Told A = ToldAt ℕ A

-- the table's number
unfoldable pub number : {C A : Type 0} → ToldAt C A → ℕ
number (found a q) = 0
number (nothing q) = 0
number (refused n q) = n
