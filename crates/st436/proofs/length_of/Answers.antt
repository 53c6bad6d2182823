-- `st436::length_of` meets its contract. The loop's invariant: what was counted, and the payload of the lines that are left, is the whole.
use mathlib.Core.Path.{sym, ap}
use native.Mathlib.Omega.{arith}
use lib.ListN.{length}
use Rattle.st436.specs.Payload.{payload_of}
use Rattle.st436.proofs.Laws.{step-found}
use Rattle.st436.proofs.Payloads.{counted_more, payload_end, payload_fits}
use Rattle.st436.proofs.length_of.Goals as goal

pub loop-line-init : goal.loop-line-init
unfolding payload_of
loop-line-init c = rw c.first-lines.ensures (omega arith)

pub overflow_add-n : goal.overflow_add-n
overflow_add-n c =
    omega (arith, counted_more _ _ _ _ _ _ c.in-Some.ensures c.loop-line.invariant, payload_fits c.args.s.now)

pub loop-line-smaller : goal.loop-line-smaller
loop-line-smaller c = omega (arith, step-found _ _ _ _ _ (sym c.in-Some.ensures))

pub loop-line-preserved : goal.loop-line-preserved
loop-line-preserved c = counted_more _ _ _ _ _ _ c.in-Some.ensures c.loop-line.invariant

pub returns : goal.returns
returns c =
    omega (arith, c.loop-line.invariant, ap length (payload_end _ _ _ _ (sym c.in_default.ensures)))
