-- `fed_states::close` meets its contract: it is refused, or its rest is that of a sound state whose end, if it is known, has come.
use Rattle.std.proofs.Common.{◌≡◌, true, sym, ◌∙◌}
use native.Mathlib.Omega.{arith}
use Rattle.fed_states.specs.State.{sound_of}
use Rattle.fed_states.proofs.Laws.{sound_tells, close-refused, close_early, close_limit, close-end}
use Rattle.fed_states.proofs.close.Goals as goal
use Rattle.fed_states.proofs.close.Goals.{Else-not-sound, else-st-via-then-st+else-st-2, else-st-via-else-st}

-- behind the first test the state is sound
is-sound : (c : goal.Else-not-sound) → sound_of c.args.st ≡ true
is-sound c = sym c.sound.ensures ∙ c.if-not-sound.false

pub returns-then-not-sound : goal.returns-then-not-sound
returns-then-not-sound c = sym (close-refused _ (sym c.sound.ensures ∙ c.if-not-sound.true))

pub overflow_add-st : goal.overflow_add-st
overflow_add-st c = omega (arith, sound_tells _ (is-sound (goal.at.overflow_add-st c).Else-not-sound))

pub returns-then-st-2 : goal.returns-then-st-2
returns-then-st-2 c = sym (close_early _ (is-sound (goal.at.returns-then-st-2 c).Else-not-sound) c.if-st.true (omega arith))

pub rest_of-requires : goal.rest_of-requires
rest_of-requires c = (sound_tells _ (is-sound (goal.at.rest_of-requires c).Else-not-sound)).within

pub returns : goal.returns
returns c =
    let h = is-sound (goal.at.returns c).Else-not-sound in
    c.rest_of.ensures
    ∙ elim c.else-st.branch [ else-st-via-then-st+else-st-2 w ↦ sym (close-end _ h w.if-st.true (omega (arith, w.if-st-2.false))) | else-st-via-else-st w ↦ sym (close_limit _ h w.if-st.false) ]
