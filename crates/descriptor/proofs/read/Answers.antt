-- `descriptor::read` meets its contract. The loop's invariant: the items from the cursor on give what all of them give.
use mathlib.Core.Path.{◌≡◌, sym}
use mathlib.Core.Bool.{false}
use native.Mathlib.Omega.{arith}
use Rattle.steps.specs.Told.{found, nothing}
use Rattle.parts.specs.Number.{two_at}
use Rattle.klv.specs.Item.{item}
use Rattle.items.specs.Items.{item_step}
use Rattle.items.proofs.Laws.{Fit, item-fits}
use Rattle.items.proofs.Going.{going_start, going_next}
use Rattle.descriptor.proofs.Laws.{over, cut}
use Rattle.descriptor.proofs.read.Goals as goal
use Rattle.descriptor.proofs.read.Goals.{In-Some, In_default}

-- no whole item is left
is-over : (c : goal.In_default) → item_step 2 false c.args.s.now c.loop-k.items.at ≡ nothing c.loop-k.items.at
is-over c = sym (rw c.in_default.is at c.step.ensures)

-- there is one
is-item : (c : goal.In-Some) → item_step 2 false c.args.s.now c.loop-k.items.at
    ≡ found (item 2 c.args.s.now c.in-Some.k) c.in-Some.next.at
is-item c = sym (rw c.in-Some.is at c.step.ensures)

fits : (c : goal.In-Some) → Fit 2 c.args.s.now c.loop-k.items.at
    (item 2 c.args.s.now c.in-Some.k) c.in-Some.next.at
fits c = item-fits _ _ _ _ _ _ (is-item c)

pub loop-k-init : goal.loop-k-init
loop-k-init c =
    let h = c.default-d.ensures in
    let areas = h.1.1.1.1.1.1.1.1 in
    let a = areas.0 in
    let b = areas.1.0 in
    going_start _ _ _ _ _ _ (λ i. record {
      duration = h.0 i;
      timecode_base = h.1.0 i;
      start_timecode = h.1.1.0 i;
      drop_frame = h.1.1.1.0 i;
      sample_rate = h.1.1.1.1.0 i;
      container_duration = h.1.1.1.1.1.0 i;
      stored_height = h.1.1.1.1.1.1.0 i;
      stored_width = h.1.1.1.1.1.1.1.0 i;
      sampled = record { height = a.0 i; width = a.1.0 i; x_offset = a.1.1.0 i; y_offset = a.1.1.1 i };
      display = record { height = b.0 i; width = b.1.0 i; x_offset = b.1.1.0 i; y_offset = b.1.1.1 i };
      aspect_ratio = areas.1.1.0 i;
      color_range = areas.1.1.1 i;
    })

pub overflow_sub-s : goal.overflow_sub-s
overflow_sub-s c = omega (arith, c.loop-k.invariant)

pub returns-then-s-items-lt4 : goal.returns-then-s-items-lt4
returns-then-s-items-lt4 c = over _ _ _ c.loop-k.invariant (is-over (goal.at.returns-then-s-items-lt4 c).In_default) (omega arith)

pub returns : goal.returns
returns c = cut _ _ _ c.loop-k.invariant (is-over (goal.at.returns c).In_default) (omega (arith, c.loop-k.invariant))

pub loop-k-smaller : goal.loop-k-smaller
loop-k-smaller c = omega (arith, fits (goal.at.loop-k-smaller c).In-Some)

pub loop-k-preserved : goal.loop-k-preserved
unfolding two_at
loop-k-preserved c =
    let f = fits (goal.at.loop-k-preserved c).In-Some in
    rw (c.fields_after-d.ensures, c.bytes.ensures, c.two_at.ensures) (going_next _ _ _ _ _ _ _ c.loop-k.invariant _ _ (is-item (goal.at.loop-k-preserved c).In-Some) (omega arith))
