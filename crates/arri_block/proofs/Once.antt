-- Two answers of which `find`'s clause holds are the same. Assumes nothing.
use Prim.Native.Nat.{ℕ}
use mathlib.Core.Path.{◌≡◌, sym, ◌∙◌}
use mathlib.Core.List.{List}
use Rattle.std.specs.Prelude.{Option}
use Rattle.arri_block.specs.Block.{block_of}

pub told_once : (element : List ℕ) (a b : Option ℕ) → a ≡ block_of element → b ≡ block_of element → a ≡ b
told_once element a b e f = e ∙ sym f
