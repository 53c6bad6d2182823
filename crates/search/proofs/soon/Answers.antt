-- `search::soon` meets its contract: the place that is near is where the search ends, or the search goes on behind the 16.
use mathlib.Core.Path.{◌∙◌}
use native.Mathlib.Omega.{arith}
use Rattle.search.proofs.Laws.{key_here}
use Rattle.search.proofs.soon.Goals as goal

pub returns-then-first-from : goal.returns-then-first-from
returns-then-first-from c = key_here _ _ _ (omega arith) (c.near-first.ensures.2 (omega arith)) ∙ c.near-first.ensures.1 _ (omega arith)

pub returns : goal.returns
returns c = c.scan-2.ensures ∙ c.near-first.ensures.1 _ (omega (arith, c.near-first.ensures.0))
