-- `written_klvs::length_of` meets its contract. The loop's invariant: what was counted and what is left is the whole.
use native.Mathlib.Omega.{arith}
use Rattle.written_klvs.proofs.Going.{Next, step-next, counting-start, counting-end, counting-next}
use Rattle.written_klvs.proofs.length_of.Goals as goal
use Rattle.written_klvs.proofs.length_of.Goals.{In-Some}

-- there is one more
next_of : (c : goal.In-Some) → Next c.args.s.now c.loop-k.run.at c.in-Some.k c.in-Some.next.at
next_of c =
    step-next _ (λ i. (c.type_inv.s i).fits) _ _ _
    (rw c.in-Some.is at c.step.ensures)

pub loop-k-init : goal.loop-k-init
loop-k-init c = counting-start _

pub returns : goal.returns
returns c = counting-end _ _ _ c.loop-k.invariant (rw c.in_default.is at c.step.ensures)

pub overflow_add-n : goal.overflow_add-n
overflow_add-n c = omega (arith, (next_of (goal.at.overflow_add-n c).In-Some).size.most, c.shortest.ensures)

pub overflow_add-n-in-Some : goal.overflow_add-n-in-Some
overflow_add-n-in-Some c = omega (arith, next_of (goal.at.overflow_add-n-in-Some c).In-Some, c.shortest.ensures)

pub overflow_add-n-in-Some-2 : goal.overflow_add-n-in-Some-2
overflow_add-n-in-Some-2 c = omega (arith, next_of (goal.at.overflow_add-n-in-Some-2 c).In-Some, c.shortest.ensures, c.loop-k.invariant.fits)

pub loop-k-smaller : goal.loop-k-smaller
loop-k-smaller c = omega (arith, next_of (goal.at.loop-k-smaller c).In-Some)

pub loop-k-preserved : goal.loop-k-preserved
loop-k-preserved c = counting-next _ _ _ c.loop-k.invariant _ _ _ (next_of (goal.at.loop-k-preserved c).In-Some) c.shortest.ensures
