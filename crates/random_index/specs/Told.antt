-- What this crate's answers say, each case by the number and values of docs/RULES.md.
use Rattle.std.specs.Prelude.{ℕ, Option, Some, None, Result, Ok, Err}
use Rattle.steps.specs.Told as steps
use Rattle.random_index.specs.declared.PackError.{PackError}
use Rattle.random_index.specs.declared.PackError.TheVariants.{Size, Label, Length}
use Rattle.random_index.specs.declared.Pair.{Pair}
use Rattle.random_index.specs.declared.Pairs.{Pairs}
use Rattle.random_index.specs.Index.{Said, pairs, refused, Counted}

abbrev pub told : Result Pairs PackError → Said
told (Ok c) = pairs c
told (Err Size) = refused 7
told (Err Label) = refused 8
told (Err Length) = refused 9

-- of a step over the pairs from p
abbrev pub step_told : ℕ → Option (Pair × Pairs) → steps.Told Counted
step_told p (Some (x, next)) = steps.found (record { pair = x; left = next.left }) next.at
step_told p None = steps.nothing p
