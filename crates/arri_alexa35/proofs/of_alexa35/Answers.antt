-- `arri_alexa35::of_alexa35` meets its contract. The loop's invariant: the sets from the cursor on leave of the values so far what the whole element leaves.
use Prim.Native.Nat.{ℕ}
use mathlib.Core.List.{List}
use mathlib.Core.Bool.{true}
use mathlib.Core.Path.{◌≡◌, sym, ap, ◌∙◌}
use native.Mathlib.Omega.{arith}
use Rattle.steps.specs.Told.{found}
use Rattle.klv.specs.Item.{item}
use Rattle.items.specs.Items.{item_step, run_of}
use Rattle.items.proofs.Laws.{item-fits}
use Rattle.items.proofs.From.{run-item, run_end}
use Rattle.arri_alexa35_values.specs.Values.{values_on, frame_of}
use Rattle.items.specs.After.{after}
use Rattle.arri_alexa35.specs.Items.{in_set, said_in}
use Rattle.arri_alexa35.proofs.Table.{table}
use Rattle.arri_alexa35.proofs.Laws.{sets_end, sets_more}
use Rattle.arri_alexa35.proofs.of_alexa35.Goals as goal
use Rattle.arri_alexa35.proofs.of_alexa35.Goals.{In-Some}

-- where a turn finds an item
is_found : (k : goal.In-Some)
    → item_step 16 true k.args.element.now k.loop-i.sets.at
    ≡ found (item 16 k.args.element.now k.in-Some.i) k.in-Some.next.at
is_found k = run-item _ _ _ k.step.ensures _ _ k.in-Some.is

pub loop-i-init : goal.loop-i-init
unfolding said_in run_of
loop-i-init c = rw c.none-k.ensures

pub returns : goal.returns
returns c =
    c.frame_of.ensures ∙ ap frame_of (sym (sets_end values_on _ _ _ (run_end _ _ _ c.step.ensures c.in_default.is)) ∙ c.loop-i.invariant) ∙ table _

pub loop-i-smaller : goal.loop-i-smaller
loop-i-smaller c = omega (arith, item-fits 16 true _ _ _ _ (is_found (goal.at.loop-i-smaller c).In-Some))

pub loop-i-preserved : goal.loop-i-preserved
loop-i-preserved c =
    let set = c.after_set-k.ensures ∙ ap (λ (l : List ℕ). after values_on c.loop-i.k (in_set l)) c.bytes.ensures in
    rw set (sym (sets_more values_on _ _ _ _ _ (is_found (goal.at.loop-i-preserved c).In-Some)) ∙ c.loop-i.invariant)
