-- What this crate's answers say, each case by the number and values of docs/RULES.md.
use Rattle.std.specs.Prelude.{ℕ, List, Option, Some, None}
use Rattle.steps.specs.Told.{Told, found, nothing}
use Rattle.klv.specs.declared.Klv.{Klv}
use Rattle.klv.specs.Item.{Item, item, past}
use Rattle.items.specs.declared.Run.{Run}
use Rattle.items.specs.declared.Local.{Local}

abbrev pub whole_told : ℕ → List ℕ → ℕ → Option Klv → Told Item
whole_told key s p (Some k) = found (item key s k) (past k)
whole_told key s p None = nothing p

-- of a step of a run from p
abbrev pub told : List ℕ → ℕ → Option (Klv × Run) → Told Item
told s p (Some (k, next)) = found (item 16 s k) next.at
told s p None = nothing p

-- of a step over a set's items, tags of `tag` bytes, from p
abbrev pub local_told : ℕ → List ℕ → ℕ → Option (Klv × Local) → Told Item
local_told tag s p (Some (k, next)) = found (item tag s k) next.at
local_told tag s p None = nothing p
