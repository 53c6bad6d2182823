-- What a call's answer says, each case by the number and values of docs/RULES.md, "What a call can say".
use Rattle.std.specs.Prelude.{List, ℕ, Option, Some, None, Result, Ok, Err}
use Rattle.steps.specs.Told.{ToldAt, found, nothing, refused}
use Rattle.klv.specs.declared.Klv.{Klv}
use Rattle.klv.specs.Item.{Item}
use Rattle.fed_states.specs.declared.State.{State}
use Rattle.fed_states.specs.declared.FedError.{FedError}
use Rattle.fed_states.specs.Close.{refused_by}
use Rattle.fed.specs.declared.Eaten.{Eaten}
use Rattle.fed.specs.declared.Fed.{Fed}
use Rattle.steps.specs.Passed.{Passed}
use Rattle.fed_bytes.specs.Feed.{Taken, took}

-- the record's label is the state's
abbrev pub found_told : {C : Type 0} → List ℕ → C → Option (Klv × ℕ) → ToldAt C (Passed Item)
found_told label c (Some (k, n)) = found (record { it = record { klv = k; key = label }; passed = n }) c
found_told label c None = nothing c

abbrev pub eaten_told : Eaten → ToldAt State (Passed Item)
eaten_told e = found_told e.state.label e.state e.found

abbrev pub fed_told : Fed → ToldAt Taken (Passed Item)
fed_told f = found_told f.state.label (took f.state f.taken) f.found

-- a refusal takes nothing and leaves the state
abbrev pub feed_told : State → Result Fed FedError → ToldAt Taken (Passed Item)
feed_told st (Ok f) = fed_told f
feed_told st (Err e) = refused (refused_by e) (took st 0)
