-- `arri_alexa35::after_set` meets its contract. The loop's invariant: the items from the cursor on leave of the values so far what the whole set leaves.
use mathlib.Core.Bool.{true}
use mathlib.Core.Path.{◌≡◌, refl, sym, ap, ap₂, ◌∙◌}
use native.Mathlib.Omega.{arith}
use Rattle.steps.specs.Told.{found}
use Rattle.std.specs.Prelude.{Some}
use Rattle.klv.specs.Item.{item}
use Rattle.items.specs.Items.{item_step, run_of}
use Rattle.items.proofs.Laws.{item-fits}
use Rattle.items.proofs.From.{run-item, run_end}
use Rattle.arri_alexa35_items.specs.Kinds.{number_in}
use Rattle.arri_alexa35_values.specs.Said.{said}
use Rattle.arri_alexa35_values.specs.Values.{values_on}
use Rattle.arri_alexa35.specs.Items.{in_set}
use Rattle.arri_alexa35.proofs.Laws.{set-end, set_more, set_passed}
use Rattle.arri_alexa35.proofs.after_set.Goals as goal
use Rattle.arri_alexa35.proofs.after_set.Goals.{In-Some}

-- where a turn finds an item
is_found : (k : goal.In-Some)
    → item_step 16 true k.args.set.now k.loop-i.items.at
    ≡ found (item 16 k.args.set.now k.in-Some.i) k.in-Some.next.at
is_found k = run-item _ _ _ k.step.ensures _ _ k.in-Some.is

pub loop-i-init : goal.loop-i-init
unfolding in_set run_of
loop-i-init c = refl

pub returns : goal.returns
returns c =
    sym (set-end values_on _ _ _ (run_end _ _ _ c.step.ensures c.in_default.is)) ∙ c.loop-i.invariant

pub loop-i-smaller : goal.loop-i-smaller
loop-i-smaller c = omega (arith, item-fits 16 true _ _ _ _ (is_found (goal.at.loop-i-smaller c).In-Some))

pub loop-i-smaller-in-Some-number_in : goal.loop-i-smaller-in-Some-number_in
loop-i-smaller-in-Some-number_in c = omega (arith, item-fits 16 true _ _ _ _ (is_found (goal.at.loop-i-smaller-in-Some-number_in c).In-Some))

pub loop-i-preserved : goal.loop-i-preserved
loop-i-preserved c =
    sym (set_passed _ _ _ _ _ (is_found (goal.at.loop-i-preserved c).In-Some) (sym (c.number_in.ensures ∙ ap number_in c.label.ensures) ∙ c.in_default-number_in.is)) ∙ c.loop-i.invariant

pub loop-i-preserved-in-Some-number_in : goal.loop-i-preserved-in-Some-number_in
loop-i-preserved-in-Some-number_in c =
    let number = ap Some c.from.ensures ∙ sym c.in-Some-number_in.is ∙ c.number_in.ensures ∙ ap number_in c.label.ensures in
    let item : c.values_on-k.result ≡ values_on c.loop-i.k _ = c.values_on-k.ensures ∙ ap (values_on c.loop-i.k) (ap₂ said number c.bytes.ensures) in
    rw item (sym (set_more values_on _ _ _ _ _ (is_found (goal.at.loop-i-preserved-in-Some-number_in c).In-Some)) ∙ c.loop-i.invariant)
