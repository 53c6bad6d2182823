-- `arri_block::in_set` meets its contract. The loop's invariant: the items from the cursor on give what the whole set gives.
use mathlib.Core.Bool.{false}
use mathlib.Core.Path.{◌≡◌, refl, sym, ◌∙◌}
use native.Mathlib.Omega.{arith}
use Rattle.steps.specs.Told.{found}
use Rattle.parts.specs.Number.{two_at}
use Rattle.klv.specs.Item.{item}
use Rattle.items.specs.Items.{item_step, items_of}
use Rattle.items.proofs.From.{local_item, local_end}
use Rattle.items.proofs.Laws.{item-fits}
use Rattle.arri_block.specs.Block.{in_set}
use Rattle.arri_block.proofs.Laws.{tag-end, tag_hit, tag-passed}
use Rattle.arri_block.proofs.in_set.Goals as goal
use Rattle.arri_block.proofs.in_set.Goals.{In-Some}

-- where a turn finds an item
is_found : (k : goal.In-Some)
    → item_step 2 false k.args.s.now k.loop-k.items.at
    ≡ found (item 2 k.args.s.now k.in-Some.k) k.in-Some.next.at
is_found k = local_item 2 false _ _ _ k.step.ensures _ _ k.in-Some.is

pub loop-k-init : goal.loop-k-init
unfolding in_set items_of
loop-k-init c = refl

pub returns : goal.returns
returns c =
    sym (tag-end 2 false _ _ (local_end 2 false _ _ _ c.step.ensures c.in_default.is)) ∙ c.loop-k.invariant

pub returns-then-two_at : goal.returns-then-two_at
unfolding two_at
returns-then-two_at c =
    c.first_bytes.ensures ∙ sym (tag_hit 2 false _ _ _ _ (is_found (goal.at.returns-then-two_at c).In-Some) (sym c.two_at.ensures ∙ c.if-two_at.true)) ∙ c.loop-k.invariant

pub loop-k-smaller : goal.loop-k-smaller
loop-k-smaller c = omega (arith, item-fits 2 false _ _ _ _ (is_found (goal.at.loop-k-smaller c).In-Some))

pub loop-k-preserved : goal.loop-k-preserved
unfolding two_at
loop-k-preserved c =
    sym (tag-passed 2 false _ _ _ _ (is_found (goal.at.loop-k-preserved c).In-Some) (λ e. c.if-two_at.false (c.two_at.ensures ∙ e))) ∙ c.loop-k.invariant
