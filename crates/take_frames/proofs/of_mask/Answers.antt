-- `take_frames::of_mask` goes by whether the mask is 0.
use borrow.Author.Tests.{eq-eqb, ne_eqb}
use Rattle.take_frames.specs.Compared.{of_mask}
use Rattle.take_frames.proofs.of_mask.Goals as goal

pub returns-then-fields-eq0 : goal.returns-then-fields-eq0
unfolding of_mask
returns-then-fields-eq0 c = rw (eq-eqb _ _ c.if-fields-eq0.true)

pub returns : goal.returns
unfolding of_mask
returns c = rw (ne_eqb _ _ c.if-fields-eq0.false)
