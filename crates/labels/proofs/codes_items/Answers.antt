-- `labels::codes_items` looks at the bytes 4 and 5.
use mathlib.Core.Path.{sym}
use native.Mathlib.Omega.{arith}
use Rattle.labels.specs.Label.{codes_items}
use Rattle.labels.proofs.Agreeing.{codes_short}
use borrow.Author.Rules.{rules}
use Rattle.labels.proofs.codes_items.Goals as goal

pub returns-then-l-lt6 : goal.returns-then-l-lt6
returns-then-l-lt6 c = sym (codes_short _ (omega arith))

pub returns : goal.returns
unfolding codes_items
returns c = search rules
