-- `strict::check` meets its contract: refusal 1, or the steps from 0 on.
use mathlib.Core.Path.{sym, ◌∙◌}
use native.Mathlib.Omega.{arith}
use Rattle.strict.proofs.Following.{gate_refused, gate_within}
use Rattle.strict.proofs.check.Goals as goal

pub returns-then-s-end : goal.returns-then-s-end
returns-then-s-end c = sym (gate_refused _ _ (omega arith))

pub returns : goal.returns
returns c = c.follow.ensures ∙ sym (gate_within _ _ (omega arith))
