-- `canon_sets::next_item` meets its contract: the item at the run's end, by its tag.
use mathlib.Core.Path.{◌≡◌, sym, ◌∙◌}
use mathlib.Core.Bool.{false}
use Rattle.steps.specs.Told.{found}
use Rattle.parts.specs.Number.{one_at}
use Rattle.klv.specs.Item.{item}
use Rattle.items.specs.Items.{item_step}
use Rattle.canon_sets.proofs.Laws.{items_over, item-run, item-other, run_in, behind}
use Rattle.canon_sets.proofs.next_item.Goals as goal
use Rattle.canon_sets.proofs.next_item.Goals.{In-Some}

is-item : (c : goal.In-Some) → item_step 1 false c.args.s.now c.args.end
    ≡ found (item 1 c.args.s.now c.in-Some.k) c.in-Some.next.at
is-item c = sym (rw c.in-Some.is at c.step.ensures)

pub returns-in_default : goal.returns-in_default
returns-in_default c =
    items_over _ _ _ c.requires.1 _ (sym (rw c.in_default.is at c.step.ensures))

pub returns-then-one_at : goal.returns-then-one_at
unfolding one_at
returns-then-one_at c =
    (item-run _ _ _ c.requires.1 _ _ (is-item (goal.at.returns-then-one_at c).In-Some) (sym c.one_at.ensures ∙ c.if-one_at.true), run_in _ _ _ c.requires.1 _ _ (is-item (goal.at.returns-then-one_at c).In-Some) c.requires.0)

pub returns : goal.returns
unfolding one_at
returns c =
    (item-other _ _ _ c.requires.1 _ _ (is-item (goal.at.returns c).In-Some) (λ e. c.if-one_at.false (c.one_at.ensures ∙ e)), behind _ _ _ c.requires.1 _ _ (is-item (goal.at.returns c).In-Some) c.requires.0)
