-- An item of an ALEXA 35's frame metadata, and what it leaves of a value: docs/RULES.md, "Frame values".
use Rattle.std.specs.Prelude.{ℕ, List, cond, eqb, Option, Some}
use Rattle.std.specs.Option.{option_or, option_eq}

-- an item: its number, if its key is one of ARRI's, and its value
pub record Said : Type 0 where
  pub number : Option ℕ
  pub value : List ℕ

abbrev pub said : Option ℕ → List ℕ → Said
said number value = record { number = number; value = value }

-- an item with the number sets the value, and erases it where its own is not usable
unfoldable pub erases : {A : Type 0} → (List ℕ → A) → ℕ → A → Said → A
erases kind n old i = cond (option_eq eqb i.number (Some n)) (kind i.value) old

-- an item with the number sets the value where its own is usable, and erases nothing
unfoldable pub keeps : {A : Type 0} → (List ℕ → Option A) → ℕ → Option A → Said → Option A
keeps kind n old i = cond (option_eq eqb i.number (Some n)) (option_or (kind i.value) old) old
