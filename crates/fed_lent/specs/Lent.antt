-- What closing a lent state says, by the state after it: docs/RULES.md, "L2. A walker fed from the socket".
use Rattle.std.specs.Prelude.{Option, Result, Ok, Err}
use Rattle.steps.specs.Told.{ToldAt, refused}
use Rattle.fed_states.specs.declared.State.{State}
use Rattle.fed_states.specs.declared.Rest.{Rest}
use Rattle.fed_states.specs.declared.FedError.{FedError}
use Rattle.fed_states.specs.Close.{rest_told, refused_by}

abbrev pub lent_told : State → Result (Option Rest) FedError → ToldAt State Rest
lent_told st (Ok r) = rest_told st r
lent_told st (Err e) = refused (refused_by e) st
