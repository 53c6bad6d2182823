-- `st436::line_at` meets its contract: each return is one case of the definition.
use Prim.Native.Nat.{◌+◌}
use mathlib.Core.Path.{◌≡◌, sym, ◌∙◌}
use native.Mathlib.Omega.{arith}
use Rattle.parts.proofs.Parts.{number-there}
use Rattle.st436.specs.Lines.{array_count}
use Rattle.st436.proofs.Laws.{line-cut, line_bad, line_good}
use Rattle.st436.proofs.line_at.Goals as goal
use Rattle.st436.proofs.line_at.Goals.{After-number_at-count}

count_of : (c : goal.After-number_at-count) → c.number_at-count.result ≡ array_count c.args.s.now c.args.at
count_of c =
    c.number_at-count.ensures ∙ number-there _ (c.args.at + 6) 4 (λ i. (c.type_inv.s i).fits) (omega arith) (omega arith)

pub returns-then-s-lt14 : goal.returns-then-s-lt14
returns-then-s-lt14 c = sym (line-cut _ _ (omega arith))

pub returns-then-s-at : goal.returns-then-s-at
returns-then-s-at c = sym (line-cut _ _ (omega arith))

pub returns-then-s-array : goal.returns-then-s-array
returns-then-s-array c = sym (line-cut _ _ (omega (arith, count_of (goal.at.returns-then-s-array c).After-number_at-count)))

pub of_bytes-requires : goal.of_bytes-requires
of_bytes-requires c = (omega arith, count_of (goal.at.of_bytes-requires c).After-number_at-count)

pub returns-then-not-of_bytes : goal.returns-then-not-of_bytes
returns-then-not-of_bytes c = sym (line_bad _ _ (omega (arith, count_of (goal.at.returns-then-not-of_bytes c).After-number_at-count)) (sym c.of_bytes.ensures ∙ c.if-not-of_bytes.true))

pub payload_length-len-requires : goal.payload_length-len-requires
payload_length-len-requires c = (omega arith, count_of (goal.at.payload_length-len-requires c).After-number_at-count)

pub returns : goal.returns
returns c =
    rw (c.payload_length-len.ensures, count_of (goal.at.returns c).After-number_at-count)
    (sym (line_good _ _ (omega (arith, count_of (goal.at.returns c).After-number_at-count)) (sym c.of_bytes.ensures ∙ c.if-not-of_bytes.false)))
