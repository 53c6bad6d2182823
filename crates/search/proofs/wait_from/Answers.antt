-- `search::wait_from` meets its contract: from no place but the last four do all bytes begin a key's start.
use mathlib.Core.Path.{◌∙◌}
use native.Mathlib.Omega.{arith}
use Rattle.search.proofs.Laws.{wait_near}
use Rattle.search.proofs.wait_from.Goals as goal

pub returns-then-from-near : goal.returns-then-from-near
returns-then-from-near c = c.begin_from-then-from-near.ensures ∙ wait_near _ _ _ (omega arith) (omega arith)
