-- `shared_index::close` meets its contract.
use mathlib.Core.Path.{sym, ◌∙◌}
use Rattle.shared_index.proofs.Laws.{closed-not, closed-done}
use Rattle.shared_index.proofs.close.Goals as goal

pub returns-then-is_open : goal.returns-then-is_open
returns-then-is_open c = let a = c.args in rw c.change.ensures (closed-done a.r a.file (sym c.is_open.ensures ∙ c.if-is_open.true))

pub returns-else-is_open : goal.returns-else-is_open
returns-else-is_open c = let a = c.args in closed-not a.r a.file (sym c.is_open.ensures ∙ c.if-is_open.false)
