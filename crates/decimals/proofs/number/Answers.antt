-- `decimals::number` meets its contract: the number so far and the digits that are left say what the word says.
use Rattle.std.proofs.Common.{◌∙◌, arith, rules}
use Rattle.decimals.proofs.Laws.{digits_on, digits_not, digits_end, number-none, number-some}
use Rattle.decimals.proofs.number.Goals as goal

pub returns-then-is_empty : goal.returns-then-is_empty
returns-then-is_empty c = number-none _ (search rules)

pub loop-d-init : goal.loop-d-init
loop-d-init c = number-some _ (search rules)

pub returns-in_err-n : goal.returns-in_err-n
returns-in_err-n c =
    rw c.from_residual.ensures (digits_not c.args.s.now c.loop-d.n c.loop-d.d-index (omega arith) c.in_err-n.ensures ∙ c.loop-d.invariant)

pub loop-d-preserved : goal.loop-d-preserved
loop-d-preserved c =
    digits_on c.args.s.now c.loop-d.n c.loop-d.d-index _ (omega arith) c.in_ok-n.ensures ∙ c.loop-d.invariant

pub returns : goal.returns
returns c =
    digits_end c.args.s.now c.loop-d.n c.loop-d.d-index (omega arith) ∙ c.loop-d.invariant
