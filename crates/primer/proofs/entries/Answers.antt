-- `primer::entries` meets its contract.
use mathlib.Core.Path.{◌≡◌, sym, ◌∙◌}
use native.Mathlib.Omega.{arith}
use Rattle.parts.specs.Number.{number_at}
use Rattle.parts.proofs.Parts.{number_read}
use Rattle.primer.proofs.Laws.{entries-short, entries-other, entries-whole}
use Rattle.primer.proofs.entries.Goals as goal
use Rattle.primer.proofs.entries.Goals.{After-number}

-- the size of an entry, as it is written
size_of : (c : goal.After-number) → c.number.result ≡ number_at c.args.s.now 4 4
size_of c =
    c.number.ensures ∙ number_read _ 4 4 (λ i. (c.type_inv.s i).fits) (omega arith) (omega arith)

pub returns-then-s-lt8 : goal.returns-then-s-lt8
returns-then-s-lt8 c = sym (entries-short _ (omega arith))

pub returns-then-number-ne18 : goal.returns-then-number-ne18
returns-then-number-ne18 c = sym (entries-other _ (omega arith) (λ e. c.if-number-ne18.true (size_of (goal.at.returns-then-number-ne18 c).After-number ∙ e)))

pub returns : goal.returns
returns c = sym (entries-whole _ (omega arith) (sym (size_of (goal.at.returns c).After-number) ∙ c.if-number-ne18.false))
