-- `frame_walks::seek` meets its contract. The loop's invariant: the next of what is shown from where it stands is the one that was asked for, and
-- walking last went on no later than there.
use Rattle.std.proofs.Common.{◌≡◌, ◌-◌, ◌≤◌}
use Rattle.frame_walks.specs.Frames.{end_on, next}
use Rattle.frame_walks.specs.Told.{place_at}
use Rattle.frame_walks.proofs.seek.Given as goal

abbrev pub invariant-loop-found : goal.invariant-loop-found
invariant-loop-found l = (next l.camera l.way l.s (place_at l.p) ≡ next l.camera l.way l.s (place_at l.initial.p)) × (l.p.since ≤ l.p.at)

abbrev pub decreases-loop-found : goal.decreases-loop-found
decreases-loop-found l = end_on l.way l.s - l.p.at
