-- What is told, with the bytes passed before it: docs/RULES.md, "L9. The bytes that were passed".
use Rattle.std.specs.Prelude.{ℕ}

-- `passed` is the count of bytes between the place where walking last went on and its own start
pub record Passed (A : Type 0) : Type 0 where
  pub it : A
  pub passed : ℕ
