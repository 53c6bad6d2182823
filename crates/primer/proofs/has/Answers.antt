-- `primer::has` meets its contract: the tag is the number of the first two bytes.
use Prim.Native.Nat.{ℕ}
use mathlib.Core.Path.{◌≡◌, ap, ◌∙◌}
use native.Mathlib.Omega.{arith}
use lib.Dec.{eqb}
use Rattle.parts.specs.Number.{number_at}
use Rattle.parts.proofs.Parts.{number_read}
use Rattle.primer.proofs.has.Goals as goal
use Rattle.primer.proofs.has.Goals.{After-number}

tag_of : (c : goal.After-number) → c.number.result ≡ number_at c.args.s.now c.args.at 2
tag_of c =
    c.number.ensures ∙ number_read _ _ 2 (λ i. (c.type_inv.s i).fits) (omega arith) (omega arith)

pub returns : goal.returns
returns c = ap (λ (v : ℕ). eqb v c.args.tag) (tag_of (goal.at.returns c).After-number)
