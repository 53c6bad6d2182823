-- `fed::turn` meets its contract: each return is one case of the rules at the key's place.
use Rattle.std.specs.Prelude.{Ok}
use mathlib.Core.Path.{◌≡◌, sym, ◌∙◌}
use native.Mathlib.Omega.{arith}
use Rattle.lengths.proofs.Errors.{cut-so, invalid-so}
use Rattle.fed_states.specs.State.{length_of}
use Rattle.fed_states.proofs.Laws.{come}
use Rattle.fed_bytes.proofs.Laws.{turn_cut, turn_none, turn_record, turn_wait, turn_late}
use Rattle.fed.proofs.turn.Goals as goal
use Rattle.fed.proofs.turn.Goals.{In-Ok}

-- in the arm where there is a length
is-length : (c : goal.In-Ok) → length_of c.args.st ≡ Ok c.in-Ok.f
is-length c = sym c.length_of-l.ensures ∙ c.in-Ok.is

pub returns-then-eq : goal.returns-then-eq
returns-then-eq c = c.silent.ensures ∙ sym (turn_cut _ (sym c.length_of-l.ensures ∙ cut-so _ (sym c.eq.ensures ∙ c.if-eq.true)))

pub returns-in_default : goal.returns-in_default
returns-in_default c =
    c.silent-in_default.ensures
    ∙ rw c.sought.ensures (sym (turn_none _ (sym c.length_of-l.ensures ∙ invalid-so _ _ c.in_default.is (sym c.eq.ensures ∙ c.if-eq.false))))

pub overflow_add-v-2 : goal.overflow_add-v-2
overflow_add-v-2 c = omega (arith, come c.args.st c.in-Ok.f (is-length (goal.at.overflow_add-v-2 c).In-Ok))

pub overflow_sub-at : goal.overflow_sub-at
overflow_sub-at c = omega (arith, come c.args.st c.in-Ok.f (is-length (goal.at.overflow_sub-at c).In-Ok))

pub overflow_add-next-then-n-at : goal.overflow_add-next-then-n-at
overflow_add-next-then-n-at c = omega (arith, come c.args.st c.in-Ok.f (is-length (goal.at.overflow_add-next-then-n-at c).In-Ok))

pub returns-then-n-at : goal.returns-then-n-at
returns-then-n-at c = rw (c.gone_on.ensures, c.saturating_sub.ensures) (sym (turn_record _ _ (is-length (goal.at.returns-then-n-at c).In-Ok) (omega arith)))

pub overflow_sub-st : goal.overflow_sub-st
overflow_sub-st c = omega (arith, come c.args.st c.in-Ok.f (is-length (goal.at.overflow_sub-st c).In-Ok))

pub returns-then-n-st : goal.returns-then-n-st
returns-then-n-st c = c.silent-then-n-st.ensures ∙ sym (turn_wait _ _ (is-length (goal.at.returns-then-n-st c).In-Ok) (omega arith) (omega arith))

pub returns : goal.returns
returns c = c.silent-2.ensures ∙ rw c.sought-2.ensures (sym (turn_late _ _ (is-length (goal.at.returns c).In-Ok) (omega arith) (omega arith)))
