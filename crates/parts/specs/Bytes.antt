-- What it is to be bytes.
use Rattle.std.specs.Prelude.{ℕ, ◌<◌, List, get_or}

-- every element is below 256 (past the end `get_or` has 0)
abbrev pub Bytes : List ℕ → Type 0
Bytes s = (i : ℕ) → get_or s i 0 < 256
