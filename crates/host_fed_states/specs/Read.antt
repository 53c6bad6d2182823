-- A host's array carries a state from call to call: what was put is what is read.
use Rattle.std.specs.Prelude.{◌≡◌, length}
use Rattle.parts.specs.Bytes.{Bytes}
use Rattle.fed_states.specs.declared.State.{State}
use Rattle.host_fed_states.specs.Places.{state_of, state_places}

-- a label of 16 bytes, and nine behind it: as any array's state has, and every state that feeding makes of one (`host_fed`: Carried)
pub record Kept (st : State) : Type 0 where
  pub label : Bytes st.label
  pub sixteen : length st.label ≡ 16
  pub ber : Bytes st.ber
  pub nine : length st.ber ≡ 9

abbrev pub ReadBack : Type 0
ReadBack = (st : State) → Kept st → state_of (state_places st) ≡ st
