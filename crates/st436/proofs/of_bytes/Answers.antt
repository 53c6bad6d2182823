-- `st436::of_bytes` meets its contract: no element, or the array length is 1.
use Prim.Native.Nat.{ℕ, ◌+◌}
use mathlib.Core.Path.{sym, ap, ◌∙◌}
use native.Mathlib.Omega.{arith}
use lib.Dec.{eqb}
use Rattle.parts.proofs.Parts.{number-there}
use Rattle.st436.proofs.Laws.{bytes-none, bytes_by}
use Rattle.st436.proofs.of_bytes.Goals as goal

pub returns-then-count-eq0 : goal.returns-then-count-eq0
returns-then-count-eq0 c = sym (bytes-none _ _ (omega arith))

pub returns : goal.returns
returns c =
    sym
    (bytes_by _ _ _ (λ e. c.if-count-eq0.false (omega arith))
    (ap (λ (n : ℕ). eqb n 1)
    (c.number_at.ensures ∙ number-there _ (c.args.at + 10) 4 (λ i. (c.type_inv.s i).fits) (omega arith) (omega arith))))
