-- `arri_block::in_run_item` meets its contract: the branch is the definition's, and the block lies in the item.
use Prim.Native.Nat.{ℕ}
use mathlib.Core.List.{List}
use mathlib.Core.Path.{◌≡◌, sym, ap, ◌∙◌}
use native.Mathlib.Omega.{arith}
use lib.ListN.{take, drop}
use Rattle.labels.specs.Label.{same_label, label_at}
use Rattle.arri_block.specs.Block.{lens_unit_set, placed_at, in_set, in_run_item}
use Rattle.arri_block.proofs.Ending.{part_ends, set-ends}
use Rattle.arri_block.proofs.in_run_item.Goals as goal
use Rattle.arri_block.proofs.in_run_item.Goals.{After-agree_but, After-in_set}

is_same : (c : goal.After-agree_but) → c.agree_but.result ≡ same_label (label_at c.args.s.now c.args.k.at) lens_unit_set
is_same c = c.agree_but.ensures ∙ ap (λ (l : List ℕ). same_label l lens_unit_set) c.label.ensures

is_block : (c : goal.After-in_set) → c.in_set.result ≡ in_set (take c.args.k.len (drop c.args.k.value c.args.s.now))
is_block c = c.in_set.ensures ∙ ap in_set c.bytes.ensures

pub placed_at-requires : goal.placed_at-requires
placed_at-requires c = λ p e.
    omega (arith, part_ends c.args.s.now c.args.k.value c.args.k.len _ (set-ends (take c.args.k.len (drop c.args.k.value c.args.s.now))) p (ap (placed_at c.args.k.value) (sym (is_block (goal.at.placed_at-requires c).After-in_set)) ∙ e))

pub returns-then-agree_but : goal.returns-then-agree_but
unfolding in_run_item
returns-then-agree_but c = c.placed_at.ensures ∙ rw (is_block (goal.at.returns-then-agree_but c).After-in_set) (simp (sym (is_same (goal.at.returns-then-agree_but c).After-agree_but) ∙ c.if-agree_but.true))

pub returns-else-agree_but : goal.returns-else-agree_but
unfolding in_run_item
returns-else-agree_but c = simp (sym (is_same (goal.at.returns-else-agree_but c).After-agree_but) ∙ c.if-agree_but.false)
