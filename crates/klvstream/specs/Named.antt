-- The walk that closing named: its end, which is the end of what came, is a place.
use Rattle.std.specs.Prelude.{◌+◌, ◌^◌, ◌<◌, Option, IfSome}
use Rattle.fed_states.specs.declared.Rest.{Rest}

abbrev pub Named : Option Rest → Type 0
Named rest = IfSome rest (λ r. r.from + r.end < 2 ^ 64)
