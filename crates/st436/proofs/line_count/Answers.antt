-- `st436::line_count` meets its contract: the count is the first two bytes, where they are there.
use mathlib.Core.Path.{sym, ◌∙◌}
use native.Mathlib.Omega.{arith}
use Rattle.parts.proofs.Parts.{number-there}
use Rattle.st436.proofs.Laws.{count_none, count_read}
use Rattle.st436.proofs.line_count.Goals as goal

pub returns-then-s-lt2 : goal.returns-then-s-lt2
returns-then-s-lt2 c = sym (count_none _ (omega arith))

pub returns : goal.returns
returns c =
    c.number_at.ensures
    ∙ number-there _ 0 2 (λ i. (c.type_inv.s i).fits) (omega arith) (omega arith)
    ∙ sym (count_read _ (omega arith))
