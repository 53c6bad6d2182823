-- `fed::breaks` meets its contract: what was passed, and what is left, is the whole.
use Prim.Native.Nat.{◌+◌, ◌-◌}
use mathlib.Core.Path.{◌≡◌, sym, ◌∙◌}
use native.Mathlib.Omega.{arith}
use Rattle.fed.proofs.Breaking.{breaks-end, breaks-whole, breaks-at, breaks_on}
use Rattle.fed.proofs.breaks.Goals as goal

pub loop-i-init : goal.loop-i-init
loop-i-init c = let z : c.args.have + 0 ≡ c.args.have = omega arith in (omega arith, rw z (omega arith))

pub returns-then-have-i-ge4 : goal.returns-then-have-i-ge4
returns-then-have-i-ge4 c = sym (breaks-whole _ _ _ c.loop-i-test.true c.if-have-i-ge4.true) ∙ c.loop-i.invariant.1

pub returns-then-starts : goal.returns-then-starts
returns-then-starts c = sym (breaks-at _ _ _ c.loop-i-test.true (omega (arith, c.if-have-i-ge4.false)) (sym c.starts.ensures ∙ c.if-starts.true)) ∙ c.loop-i.invariant.1

pub loop-i-preserved : goal.loop-i-preserved
loop-i-preserved c =
    let a = c.args in
    let h = c.if-have-i-ge4.false in
    let z : a.have + c.loop-i.i + 1 ≡ a.have + (c.loop-i.i + 1) = omega arith in
    let n = breaks_on (a.have + c.loop-i.i) a.piece.now c.loop-i.i c.loop-i-test.true (omega (arith, h)) (sym c.starts.ensures ∙ c.if-starts.false) in
    (omega (arith, h), sym (rw z at n) ∙ c.loop-i.invariant.1)

pub returns : goal.returns
returns c =
    let e = breaks-end (c.args.have + c.loop-i.i) c.args.piece.now c.loop-i.i (omega (arith, c.loop-i-test.false)) in
    omega (arith, e, c.loop-i.invariant.1)

pub overflow_add-have : goal.overflow_add-have
overflow_add-have c = omega (arith, c.loop-i.invariant.0)

pub overflow_add-have-in-loop-i : goal.overflow_add-have-in-loop-i
overflow_add-have-in-loop-i c = omega (arith, c.loop-i.invariant.0)
