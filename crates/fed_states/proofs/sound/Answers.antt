use native.Mathlib.Omega.{arith}
use borrow.Author.Tests.{not-true, not-false}
use Rattle.fed_states.proofs.Laws.{sound_shut, sound_past, sound_up}
use Rattle.fed_states.proofs.sound.Goals as goal

pub returns-then-not-st : goal.returns-then-not-st
returns-then-not-st c = sound_shut _ (not-true _ c.if-not-st.true)

pub returns-then-st : goal.returns-then-st
returns-then-st c = sound_past _ (not-false _ c.if-not-st.false) (omega arith)

pub returns : goal.returns
returns c = sound_up _ (not-false _ c.if-not-st.false) (omega arith)
