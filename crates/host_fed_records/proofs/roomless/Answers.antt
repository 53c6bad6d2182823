-- `host_fed_records::roomless` meets its contract: the piece is refused, or the state is put as it was.
use Rattle.std.proofs.Common.{refl}
use Rattle.fed_states.proofs.Laws.{refused-some}
use Rattle.host_fed_records.proofs.Answers.{roomless_refused, roomless_taken}
use Rattle.host_fed_records.proofs.roomless.Goals as goal

pub returns-in-Err : goal.returns-in-Err
returns-in-Err c = rw c.number.ensures (roomless_refused _ _ _ _ _ (rw (c.state_of-st.ensures, c.in-Err.is) at c.admit.ensures) (refused-some c.in-Err.e))

pub returns : goal.returns
returns c = rw (c.put_state.ensures, c.state_of-st.ensures) (roomless_taken _ _ _ _ 0 (rw (c.state_of-st.ensures, c.in_default.is) at c.admit.ensures) refl)
