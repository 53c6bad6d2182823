-- `fed_pieces::admit` meets its contract: its tests are the definition's.
use mathlib.Core.Path.{◌≡◌, sym, ◌∙◌}
use mathlib.Core.Bool.{true}
use native.Mathlib.Omega.{arith}
use Rattle.fed_states.specs.State.{sound_of}
use Rattle.fed_states.proofs.Laws.{sound_tells}
use Rattle.fed_pieces.proofs.Laws.{refusal-closed, refusal-past, refusal-none}
use Rattle.fed_pieces.proofs.admit.Goals as goal
use Rattle.fed_pieces.proofs.admit.Goals.{Else-not-sound}

-- behind the first test the state is sound
is-sound : (c : goal.Else-not-sound) → sound_of c.args.st ≡ true
is-sound c = sym c.sound.ensures ∙ c.if-not-sound.false

pub returns-then-not-sound : goal.returns-then-not-sound
returns-then-not-sound c = refusal-closed _ (sym c.sound.ensures ∙ c.if-not-sound.true) _

pub overflow_add-st : goal.overflow_add-st
overflow_add-st c = omega (arith, sound_tells _ (is-sound (goal.at.overflow_add-st c).Else-not-sound))

pub overflow_sub-st : goal.overflow_sub-st
overflow_sub-st c = omega (arith, sound_tells _ (is-sound (goal.at.overflow_sub-st c).Else-not-sound))

pub returns-then-st-len : goal.returns-then-st-len
returns-then-st-len c = refusal-past _ (is-sound (goal.at.returns-then-st-len c).Else-not-sound) _ (omega arith)

pub returns : goal.returns
returns c = refusal-none _ (is-sound (goal.at.returns c).Else-not-sound) _ (omega arith)
