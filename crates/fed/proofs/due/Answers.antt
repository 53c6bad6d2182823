-- `fed::due` meets its contract, case by case.
use Rattle.std.specs.Prelude.{Ok}
use mathlib.Core.Path.{◌≡◌, sym, ap, ◌∙◌}
use native.Mathlib.Omega.{arith}
use Rattle.lengths.proofs.Errors.{cut-so, invalid-so}
use Rattle.fed_states.specs.State.{length_of}
use Rattle.fed_states.proofs.Laws.{come}
use Rattle.fed.specs.Parts.{due_of}
use Rattle.fed.proofs.Biting.{due_cut, due_none, due_fits, due_late}
use Rattle.fed.proofs.due.Goals as goal
use Rattle.fed.proofs.due.Goals.{In-Ok}

is-length : (c : goal.In-Ok) → length_of c.args.st ≡ Ok c.in-Ok.f
is-length c = sym c.requires.l_value ∙ c.in-Ok.is

pub returns-then-eq : goal.returns-then-eq
returns-then-eq c = sym (ap (due_of c.args.st) (cut-so _ (sym c.eq.ensures ∙ c.if-eq.true)) ∙ due_cut c.args.st)

pub returns-else-eq : goal.returns-else-eq
returns-else-eq c = sym (ap (due_of c.args.st) (invalid-so _ _ c.in_default.is (sym c.eq.ensures ∙ c.if-eq.false)) ∙ due_none c.args.st)

pub overflow_add-size : goal.overflow_add-size
overflow_add-size c = omega (arith, come c.args.st c.in-Ok.f (is-length (goal.at.overflow_add-size c).In-Ok))

pub overflow_add-st : goal.overflow_add-st
overflow_add-st c = omega (arith, come c.args.st c.in-Ok.f (is-length (goal.at.overflow_add-st c).In-Ok))

pub overflow_sub-st : goal.overflow_sub-st
overflow_sub-st c = omega (arith, come c.args.st c.in-Ok.f (is-length (goal.at.overflow_sub-st c).In-Ok))

pub overflow_add-result : goal.overflow_add-result
overflow_add-result c = omega (arith, come c.args.st c.in-Ok.f (is-length (goal.at.overflow_add-result c).In-Ok))

pub returns-then-f-st : goal.returns-then-f-st
returns-then-f-st c = rw c.in-Ok.is (sym (due_fits c.args.st _ (omega (arith, come c.args.st c.in-Ok.f (is-length (goal.at.returns-then-f-st c).In-Ok)))))

pub returns : goal.returns
returns c = rw c.in-Ok.is (sym (due_late c.args.st _ (omega (arith, come c.args.st c.in-Ok.f (is-length (goal.at.returns c).In-Ok)))))
