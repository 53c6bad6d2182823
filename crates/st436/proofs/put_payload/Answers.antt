-- `st436::put_payload` meets its contract. The loop's invariant: what was put, and the payload of the lines that are left, is the whole.
use mathlib.Core.Path.{refl, sym}
use native.Mathlib.Omega.{arith}
use Rattle.st436.proofs.Laws.{step-found}
use Rattle.st436.proofs.Payloads.{going_start, going_next, going_none, going_end}
use Rattle.st436.proofs.put_payload.Goals as goal

pub loop-line-init : goal.loop-line-init
loop-line-init c = rw c.first-lines.ensures (going_start _ _ _ refl)

pub loop-line-smaller-then-line-gt0 : goal.loop-line-smaller-then-line-gt0
loop-line-smaller-then-line-gt0 c = omega (arith, step-found _ _ _ _ _ (sym c.in-Some.ensures))

pub loop-line-preserved-then-line-gt0 : goal.loop-line-preserved-then-line-gt0
loop-line-preserved-then-line-gt0 c =
    going_next _ _ _ _ _ _ c.loop-line.invariant _ _ c.in-Some.ensures _ _ _ c.bytes.ensures c.put_all-r.ensures

pub loop-line-smaller : goal.loop-line-smaller
loop-line-smaller c = omega (arith, step-found _ _ _ _ _ (sym c.in-Some.ensures))

pub loop-line-preserved : goal.loop-line-preserved
loop-line-preserved c = going_none _ _ _ _ _ _ c.loop-line.invariant _ _ c.in-Some.ensures (omega arith)

pub returns : goal.returns
returns c = going_end _ _ _ _ _ _ c.loop-line.invariant _ c.in_default.ensures
