-- `arri_block::in_element_item` meets its contract: the branch is the definition's, and the block lies in the item.
use mathlib.Core.Path.{◌≡◌, sym, ap, ◌∙◌}
use native.Mathlib.Omega.{arith}
use borrow.Author.Tests.{eq-eqb, ne_eqb}
use lib.ListN.{take, drop}
use Rattle.parts.specs.Number.{one_at}
use Rattle.arri_block.specs.Block.{placed_at, in_run, in_element_item}
use Rattle.arri_block.proofs.Ending.{part_ends, run_ends}
use Rattle.arri_block.proofs.in_element_item.Goals as goal
use Rattle.arri_block.proofs.in_element_item.Goals.{After-in_run}

is_block : (c : goal.After-in_run) → c.in_run.result ≡ in_run (take c.args.k.len (drop c.args.k.value c.args.s.now))
is_block c = c.in_run.ensures ∙ ap in_run c.bytes.ensures

pub placed_at-requires : goal.placed_at-requires
placed_at-requires c = λ p e.
    omega (arith, part_ends c.args.s.now c.args.k.value c.args.k.len _ (run_ends (take c.args.k.len (drop c.args.k.value c.args.s.now))) p (ap (placed_at c.args.k.value) (sym (is_block (goal.at.placed_at-requires c).After-in_run)) ∙ e))

pub returns-then-one_at : goal.returns-then-one_at
unfolding in_element_item one_at
returns-then-one_at c = c.placed_at.ensures ∙ rw (is_block (goal.at.returns-then-one_at c).After-in_run) (simp (eq-eqb _ _ (sym c.one_at.ensures ∙ c.if-one_at.true)))

pub returns-else-one_at : goal.returns-else-one_at
unfolding in_element_item one_at
returns-else-one_at c = simp (ne_eqb _ _ (λ e. c.if-one_at.false (c.one_at.ensures ∙ e)))
