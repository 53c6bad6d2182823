-- `host_numbers::twos` answers the number's two's complement, below 0 or not.
use mathlib.Core.Path.{ap, ◌∙◌}
use mir.Syntax.{w64}
use mir.Val.{to_z, of_z}
use mir.ValLaws.{to_z-of_z}
use Rattle.host_numbers.specs.Numbers.{twos}
use Rattle.host_numbers.proofs.Signed.{Below, Not-below, back, negative, not_negative}
use Rattle.host_numbers.proofs.twos.Goals as goal
use Rattle.host_numbers.proofs.twos.Goals.{Else-n-lt0, Then-n-lt0}

below : (c : goal.Then-n-lt0) → Below (to_z w64 (of_z w64 c.args.n))
below c = negative _ (back _ c.ranges.n) c.if-n-lt0.true

not-below : (c : goal.Else-n-lt0) → Not-below (to_z w64 (of_z w64 c.args.n))
not-below c = not_negative _ (back _ c.ranges.n) c.if-n-lt0.false

pub overflow_sub-below : goal.overflow_sub-below
overflow_sub-below c = (below (goal.at.overflow_sub-below c).Then-n-lt0).sub

pub overflow_cast-up : goal.overflow_cast-up
overflow_cast-up c = (below (goal.at.overflow_cast-up c).Then-n-lt0).cast

pub overflow_sub-result : goal.overflow_sub-result
overflow_sub-result c = (below (goal.at.overflow_sub-result c).Then-n-lt0).least

pub returns-then-n-lt0 : goal.returns-then-n-lt0
returns-then-n-lt0 c = (below (goal.at.returns-then-n-lt0 c).Then-n-lt0).is ∙ ap twos (to_z-of_z w64 c.args.n c.ranges.n)

pub overflow_cast-result : goal.overflow_cast-result
overflow_cast-result c = (not-below (goal.at.overflow_cast-result c).Else-n-lt0).cast

pub returns : goal.returns
returns c = (not-below (goal.at.returns c).Else-n-lt0).is ∙ ap twos (to_z-of_z w64 c.args.n c.ranges.n)
