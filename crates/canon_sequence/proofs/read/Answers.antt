-- `canon_sequence::read` meets its contract. The loop's invariant: the items from the cursor on give what all of them give.
use mathlib.Core.Path.{◌≡◌, sym}
use mathlib.Core.Bool.{false}
use native.Mathlib.Omega.{arith}
use Rattle.steps.specs.Told.{found}
use Rattle.parts.specs.Number.{two_at}
use Rattle.klv.specs.Item.{item}
use Rattle.items.specs.Items.{item_step}
use Rattle.items.proofs.Laws.{Fit, item-fits}
use Rattle.items.proofs.Going.{going_start, going_next, going_end}
use Rattle.canon_sequence.specs.Sequence.{sequence_of}
use Rattle.canon_sequence.proofs.read.Goals as goal
use Rattle.canon_sequence.proofs.read.Goals.{In-Some}

-- where there is a whole item
is-item : (c : goal.In-Some) → item_step 2 false c.args.s.now c.loop-k.items.at
    ≡ found (item 2 c.args.s.now c.in-Some.k) c.in-Some.next.at
is-item c = sym (rw c.in-Some.is at c.step.ensures)

fits : (c : goal.In-Some) → Fit 2 c.args.s.now c.loop-k.items.at
    (item 2 c.args.s.now c.in-Some.k) c.in-Some.next.at
fits c = item-fits _ _ _ _ _ _ (is-item c)

pub loop-k-init : goal.loop-k-init
loop-k-init c = going_start _ _ _ _ _ _ c.empty-q.ensures

pub returns : goal.returns
unfolding sequence_of
returns c = (going_end _ _ _ _ _ _ _ c.loop-k.invariant (sym (rw c.in_default.is at c.step.ensures))).1

pub loop-k-smaller : goal.loop-k-smaller
loop-k-smaller c = omega (arith, fits (goal.at.loop-k-smaller c).In-Some)

pub loop-k-preserved : goal.loop-k-preserved
unfolding two_at
loop-k-preserved c =
    let f = fits (goal.at.loop-k-preserved c).In-Some in
    rw (c.fields_after-q.ensures, c.bytes.ensures, c.two_at.ensures) (going_next _ _ _ _ _ _ _ c.loop-k.invariant _ _ (is-item (goal.at.loop-k-preserved c).In-Some) (omega arith))
