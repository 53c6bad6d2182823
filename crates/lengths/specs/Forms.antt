-- What "shortest" says of a length: docs/RULES.md, "L1. How long the length field was".
use Rattle.std.specs.Prelude.{ℕ, ◌≤◌, ◌<◌, ◌≡◌, List, true, get_or, Ok}
use Rattle.parts.specs.Bytes.{Bytes}
use Rattle.lengths.specs.declared.Field.{Field}
use Rattle.lengths.specs.Length.{bound_of, length_at}

-- its first byte is not 80h, and no form of fewer bytes holds the number
pub record NoShorter (first : ℕ) (f : Field) : Type 0 where
  pub plain : first ≡ 0x80 → ⊥
  pub none-holds : (size : ℕ) → size < f.size → bound_of size ≤ f.value

-- a length that is read: 1 to 9 bytes that hold the number, and shortest exactly where there is no shorter form
pub record Form (first : ℕ) (f : Field) : Type 0 where
  pub some : 1 ≤ f.size
  pub few : f.size ≤ 9
  pub holds : f.value < bound_of f.size
  pub shortest : f.shortest ≡ true → NoShorter first f
  pub only_so : NoShorter first f → f.shortest ≡ true

abbrev pub Forms : Type 0
Forms = (s : List ℕ) (at : ℕ) (f : Field) → Bytes s → length_at s at ≡ Ok f → Form (get_or s at 0) f
