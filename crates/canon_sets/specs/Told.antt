-- What this crate's answers say, each case by the number and values of docs/RULES.md; from is where the cursor stood.
use Rattle.std.specs.Prelude.{ℕ, ◌-◌, ◌≤◌, ◌<◌, ◌≡◌, List, [], ◌∷◌, length, Option, Some, None}
use Rattle.steps.specs.Told.{Told, found, nothing}
use Rattle.klv.specs.Item.{past}
use Rattle.canon_sets.specs.declared.Turn.{Turn}
use Rattle.canon_sets.specs.declared.Turn.TheVariants as turn
use Rattle.klv.specs.declared.Klv.{Klv}
use Rattle.canon_sets.specs.declared.Package.{Package}
use Rattle.canon_sets.specs.Package.{Entry, entry, values_from}

abbrev pub told : ℕ → Option (Klv × Package) → Told Entry
told from (Some a) = found (entry a.1.end a.0) a.1.from
told from None = nothing from

-- the first of the values, and the cursor past it
unfoldable pub first_of : ℕ → List Entry → Told Entry
first_of from [] = nothing from
first_of from (e ∷ more) = found e (past e.klv)

-- a cursor that moved up within the set
pub record Moved (s : List ℕ) (from f e : ℕ) : Type 0 where
  pub within : f ≤ e
  pub up : length s - f < length s - from

-- a turn at a cursor finds the first of its values, or goes on where they are the same, or has none
abbrev pub Turned : List ℕ → ℕ → ℕ → Turn → Type 0
Turned s from end (turn.Value k next) = (values_from s from end ≡ entry end k ∷ values_from s next end) × (next ≡ past k)
Turned s from end (turn.On f e) = (values_from s from end ≡ values_from s f e) × Moved s from f e
Turned s from end turn.Over = values_from s from end ≡ []
