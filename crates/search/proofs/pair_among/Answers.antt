-- `search::pair_among` meets its contract. The loop's invariant: where there was no hit, a search passes the places tested.
use mathlib.Core.Path.{◌≡◌}
use native.Mathlib.Omega.{arith}
use Rattle.search.proofs.Laws.{passes_none, passes-more, pair_unmet}
use Rattle.search.proofs.pair_among.Goals as goal

pub loop-k-init : goal.loop-k-init
loop-k-init c = λ z. passes_none _ _

pub loop-k-preserved : goal.loop-k-preserved
loop-k-preserved c = passes-more _ _ _ _ _ c.loop-k.invariant (pair_unmet _ _)

pub returns : goal.returns
returns c = let x : c.loop-k.k ≡ 64 = omega arith in rw x at c.loop-k.invariant
