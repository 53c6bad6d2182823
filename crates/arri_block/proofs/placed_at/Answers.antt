-- `arri_block::placed_at` meets its contract: the block ends where a place still fits.
use Rattle.std.proofs.Common.{rules}
use mathlib.Core.Path.{ap, ◌∙◌}
use native.Mathlib.Omega.{arith}
use Rattle.std.specs.ControlFlow.{continue_value}
use Rattle.arri_block.specs.Block.{placed_at}
use Rattle.arri_block.proofs.placed_at.Goals as goal

pub returns-in_err-b : goal.returns-in_err-b
unfolding placed_at
returns-in_err-b c = search rules

pub overflow_add-result : goal.overflow_add-result
unfolding placed_at
overflow_add-result c = omega (arith, c.requires _ (ap (placed_at c.args.from) (c.branch-b.ensures ∙ ap continue_value c.in_ok-b.is)))

pub returns : goal.returns
unfolding placed_at
returns c = search rules
