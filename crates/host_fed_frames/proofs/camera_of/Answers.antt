-- `host_fed_frames::camera_of` meets its contract: 0 is Sony's.
use borrow.Author.Tests.{eq-eqb, ne_eqb}
use Rattle.host_fed_frames.specs.Places.{camera_of}
use Rattle.host_fed_frames.proofs.camera_of.Goals as goal

pub returns-then-n-eq0 : goal.returns-then-n-eq0
unfolding camera_of
returns-then-n-eq0 c = rw (eq-eqb _ _ c.if-n-eq0.true)

pub returns : goal.returns
unfolding camera_of
returns c = rw (ne_eqb _ _ c.if-n-eq0.false)
