-- `written_lengths::shortest` meets its contract. The loop's invariant: the first size from here on is the first of all.
use mathlib.Core.Path.{◌≡◌, refl, sym, ◌∙◌}
use native.Mathlib.Omega.{arith}
use Rattle.written_lengths.specs.Form.{shortest_size}
use Rattle.written_lengths.proofs.Sizes.{size-here, size_on, size-last}
use Rattle.written_lengths.proofs.shortest.Goals as goal

pub loop-size-init : goal.loop-size-init
unfolding shortest_size
loop-size-init c = refl

pub returns-then-holds : goal.returns-then-holds
returns-then-holds c = sym (c.loop-size.invariant ∙ size-here _ _ _ (omega arith) (sym c.holds.ensures ∙ c.if-holds.true))

pub loop-size-preserved : goal.loop-size-preserved
loop-size-preserved c = c.loop-size.invariant ∙ size_on _ _ (omega arith) (sym c.holds.ensures ∙ c.if-holds.false)

pub returns : goal.returns
returns c = let e : c.loop-size.size ≡ 9 = omega arith in sym (rw e at c.loop-size.invariant ∙ size-last _ _ _ (omega arith))
