-- `canon_sets::turn_at` meets its contract: the KLV at the cursor, by its label.
use mathlib.Core.Path.{◌≡◌, sym, ◌∙◌}
use lib.ListN.{take}
use Rattle.steps.specs.Told.{found}
use Rattle.labels.specs.Label.{same_label, label_at}
use Rattle.klv.specs.Item.{item}
use Rattle.items.specs.Items.{run_step}
use Rattle.items.proofs.Laws.{item-fits}
use Rattle.canon_sets.specs.Package.{private_metadata}
use Rattle.canon_sets.proofs.Laws.{run-over, run_value, run-other, run_moved}
use Rattle.canon_sets.proofs.turn_at.Goals as goal
use Rattle.canon_sets.proofs.turn_at.Goals.{After-same_label, In-Some}

is-run : (c : goal.In-Some) → run_step (take c.args.end c.args.s.now) c.args.from
    ≡ found (item 16 (take c.args.end c.args.s.now) c.in-Some.k) c.in-Some.next.at
is-run c = sym (rw (c.in-Some.is, c.part-run.ensures) at c.step.ensures)

is-label : (c : goal.After-same_label) → c.same_label.result
    ≡ same_label (label_at (take c.args.end c.args.s.now) c.in-Some.k.at) private_metadata
is-label c = rw (c.label.ensures, c.part-run.ensures) at c.same_label.ensures

pub next_item-requires : goal.next_item-requires
next_item-requires c = (c.requires, run-over _ _ _ _ (sym (rw (c.in_default.is, c.part-run.ensures) at c.step.ensures)))

pub returns-in_default : goal.returns-in_default
returns-in_default c = c.next_item.ensures

pub returns-then-same_label : goal.returns-then-same_label
returns-then-same_label c =
    (run_value _ _ _ _ _ (is-run (goal.at.returns-then-same_label c).In-Some) (sym (is-label (goal.at.returns-then-same_label c).After-same_label) ∙ c.if-same_label.true), (item-fits _ _ _ _ _ _ (is-run (goal.at.returns-then-same_label c).In-Some)).goes_on)

pub returns : goal.returns
returns c =
    (run-other _ _ _ _ _ (is-run (goal.at.returns c).In-Some) (sym (is-label (goal.at.returns c).After-same_label) ∙ c.if-same_label.false), run_moved _ _ _ _ _ (is-run (goal.at.returns c).In-Some))
