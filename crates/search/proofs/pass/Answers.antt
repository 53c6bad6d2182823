-- `search::pass` meets its contract. The loop's invariant: a search passes the blocks of 16 tested.
use Rattle.std.specs.Prelude.{◌≡◌, ◌+◌, ◌*◌}
use native.Mathlib.Omega.{arith}
use Rattle.search.proofs.Laws.{passes_none, passes_on}
use Rattle.search.proofs.pass.Goals as goal

pub returns-then-not-pair_among : goal.returns-then-not-pair_among
returns-then-not-pair_among c = (omega arith, omega arith, c.pair_among.ensures (c.if-not-pair_among.true))

pub loop-k-init : goal.loop-k-init
loop-k-init c = passes_none _ _

pub returns-then-key_among : goal.returns-then-key_among
returns-then-key_among c = (omega arith, omega arith, c.loop-k.invariant)

pub loop-k-preserved : goal.loop-k-preserved
loop-k-preserved c =
    let e : 16 * (c.loop-k.k + 1) ≡ 16 * c.loop-k.k + 16 = omega arith in
    rw e (passes_on _ _ _ _ c.loop-k.invariant (c.key_among.ensures c.if-key_among.false))

pub returns : goal.returns
returns c = let e : c.loop-k.k ≡ 4 = omega arith in (omega arith, omega arith, rw e at c.loop-k.invariant)
