-- `st436::Lines::step` meets its contract: it is the line at the cursor, with one line less to come.
use mathlib.Core.Path.{sym}
use native.Mathlib.Omega.{arith}
use Rattle.st436.proofs.Laws.{step-over, step_bad, step_line}
use Rattle.st436.proofs.Lines.step.Goals as goal

pub returns-then-self-eq0 : goal.returns-then-self-eq0
returns-then-self-eq0 c = sym (step-over _ _ _ c.if-self-eq0.true)

pub returns-in_err-line : goal.returns-in_err-line
returns-in_err-line c = rw c.from_residual.ensures (sym (step_bad _ _ _ (sym c.in_err-line.ensures)))

pub returns : goal.returns
returns c = sym (step_line _ _ _ _ _ (omega arith) (sym c.in_ok-line.ensures))
