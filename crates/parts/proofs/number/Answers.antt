-- `parts::number` meets its contract.
use Rattle.parts.specs.Number.{number_at}
use Rattle.parts.proofs.Numbers.{low_more}
use Rattle.std.proofs.Common.{rules}
use Rattle.parts.proofs.number.Goals as goal

pub loop-b-init : goal.loop-b-init
unfolding number_at
loop-b-init c = search rules

pub loop-b-preserved : goal.loop-b-preserved
loop-b-preserved c =
    let l = c.loop-b in
    rw (l.invariant, c.from.ensures) (low_more c.args.s.now l.b-index (c.type_inv.s l.b-index).fits)
