-- `arri_block::find` meets its contract. The loop's invariant: the items from the cursor on give what the whole gives.
use mathlib.Core.Bool.{false}
use mathlib.Core.Path.{◌≡◌, refl, sym, ◌∙◌}
use native.Mathlib.Omega.{arith}
use Rattle.steps.specs.Told.{found}
use Rattle.klv.specs.Item.{item}
use Rattle.items.specs.Items.{item_step, items_of}
use Rattle.items.proofs.From.{local_item, local_end}
use Rattle.items.proofs.Laws.{item-fits}
use Rattle.arri_block.specs.Block.{block_of}
use Rattle.arri_block.proofs.Laws.{first-end, first_hit, first-passed}
use Rattle.arri_block.proofs.find.Goals as goal
use Rattle.arri_block.proofs.find.Goals.{In-Some}

-- where a turn finds an item
is_found : (k : goal.In-Some)
    → item_step 1 false k.args.element.now k.loop-k.items.at
    ≡ found (item 1 k.args.element.now k.in-Some.k) k.in-Some.next.at
is_found k = local_item 1 false _ _ _ k.step.ensures _ _ k.in-Some.is

pub loop-k-init : goal.loop-k-init
unfolding block_of items_of
loop-k-init c = refl

pub returns : goal.returns
returns c =
    sym (first-end 1 false _ _ _ (local_end 1 false _ _ _ c.step.ensures c.in_default.is)) ∙ c.loop-k.invariant

pub returns-in-Some-in_element_item : goal.returns-in-Some-in_element_item
returns-in-Some-in_element_item c =
    sym c.in-Some-in_element_item.is ∙ c.in_element_item.ensures ∙ sym (first_hit 1 false _ _ _ _ (is_found (goal.at.returns-in-Some-in_element_item c).In-Some) _ _ (sym c.in_element_item.ensures ∙ c.in-Some-in_element_item.is)) ∙ c.loop-k.invariant

pub loop-k-smaller : goal.loop-k-smaller
loop-k-smaller c = omega (arith, item-fits 1 false _ _ _ _ (is_found (goal.at.loop-k-smaller c).In-Some))

pub loop-k-preserved : goal.loop-k-preserved
loop-k-preserved c =
    sym (first-passed 1 false _ _ _ _ (is_found (goal.at.loop-k-preserved c).In-Some) _ (sym c.in_element_item.ensures ∙ c.in_default-in_element_item.is)) ∙ c.loop-k.invariant
