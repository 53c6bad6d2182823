-- What this crate's answers say, each case by the number and values of docs/RULES.md.
use Rattle.std.specs.Prelude.{ℕ, List, Option, Some, None, Result, Ok, Err}
use Rattle.steps.specs.Told.{Told, found, nothing}
use Rattle.st436.specs.declared.Line.{Line}
use Rattle.st436.specs.declared.Lines.{Lines}
use Rattle.st436.specs.declared.Longer.{Longer}
use Rattle.st436.specs.Lines.{Counted, line_count}

-- where an element's first line stands
abbrev pub first_line : List ℕ → Lines
first_line s = record { at = 2; left = line_count s }

abbrev pub whole_told : ℕ → Option (Line × ℕ) → Told Line
whole_told p (Some (l, next)) = found l next
whole_told p None = nothing p

-- of a step over the lines from p
abbrev pub told : ℕ → Option (Line × Lines) → Told Counted
told p (Some (l, next)) = found (record { line = l; left = next.left }) next.at
told p None = nothing p

-- of the payload: its number, and the payload's length
abbrev pub said : Result ℕ Longer → ℕ × ℕ
said (Ok n) = (0, n)
said (Err e) = (3, e.needed)
