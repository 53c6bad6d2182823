-- What the answers say, each case by the number and place of docs/RULES.md, "L7. A strict gate"; e is the end.
use Rattle.std.specs.Prelude.{ℕ, Option, Some, None, Result, Ok, Err}
use Rattle.steps.specs.Told.{Told, found, nothing, refused}
use Rattle.strict.specs.declared.GateError.{GateError}
use Rattle.strict.specs.declared.GateError.TheVariants.{Refused, Short, NoKey, NoLength, Indefinite, Past}

-- 1 comes before any step
abbrev pub error_told : GateError → Told ℕ
error_told Refused = refused 1 0
error_told (Short p) = refused 10 p
error_told (NoKey p) = refused 11 p
error_told (NoLength p) = refused 12 p
error_told (Indefinite p) = refused 13 p
error_told (Past p) = refused 14 p

-- accepted: over at the end
abbrev pub told : ℕ → Result (Unit {0}) GateError → Told ℕ
told e (Ok u) = nothing e
told e (Err g) = error_told g

-- of a step at p
abbrev pub seen_told : ℕ → ℕ → Result (Option ℕ) GateError → Told ℕ
seen_told e p (Ok (Some q)) = found p q
seen_told e p (Ok None) = nothing e
seen_told e p (Err g) = error_told g
