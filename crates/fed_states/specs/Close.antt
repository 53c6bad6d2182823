-- Closing a fed walker: docs/RULES.md, "L2. A walker fed from the socket".
use Rattle.std.specs.Prelude.{ℕ, ◌+◌, ◌-◌, cond, not, ◌&&◌, ltb, Option, Some, None, Result, Ok, Err}
use Rattle.steps.specs.Told.{ToldAt, found, nothing, refused}
use Rattle.lengths.specs.declared.Field.{Field}
use Rattle.lengths.specs.declared.NoLength.{NoLength}
use Rattle.lengths.specs.declared.NoLength.TheVariants.{Cut, Invalid}
use Rattle.fed_states.specs.declared.State.{State}
use Rattle.fed_states.specs.declared.Shut.{Shut}
use Rattle.fed_states.specs.declared.Rest.{Rest}
use Rattle.fed_states.specs.declared.FedError.{FedError}
use Rattle.fed_states.specs.declared.FedError.TheVariants.{TooMuch, Closed}
use Rattle.fed_states.specs.State.{shut, length_of, sound_of}

-- What closing says, each case by the number of docs/RULES.md, "What a call can say": a rest, none (it is clean), or 5
abbrev pub rest_told : State → Option Rest → ToldAt State Rest
rest_told st (Some r) = found r st
rest_told st None = nothing st

-- 2: the piece would pass the limit or the end; 5: the walk is closed, or its known end has not come
abbrev pub refused_by : FedError → ℕ
refused_by TooMuch = 2
refused_by Closed = 5

-- a refusal leaves the state
abbrev pub close_told : State → Result Shut FedError → ToldAt State Rest
close_told st (Ok s) = rest_told s.state s.rest
close_told st (Err e) = refused (refused_by e) st

-- in a value: its start, and how many of its bytes have come
unfoldable pub ends_by : State → Result Field NoLength → ToldAt State Rest
ends_by st (Ok f) = found (record { from = st.at + (16 + f.size); end = st.have - (16 + f.size) }) (shut st)
ends_by st (Err Cut) = nothing (shut st)
ends_by st (Err Invalid) = nothing (shut st)

-- 5: closed already, or before a known end
unfoldable pub close_of : State → ToldAt State Rest
close_of st = cond (sound_of st && not (st.known && ltb (st.at + st.have) st.limit)) (ends_by st (length_of st)) (refused 5 st)
