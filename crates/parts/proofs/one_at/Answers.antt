-- `parts::one_at` meets its contract: one byte holds a number that fits.
use mathlib.Core.Path.{◌≡◌, sym, ◌∙◌}
use native.Mathlib.Omega.{arith}
use lib.ListN.{take, drop}
use Rattle.parts.specs.Number.{number_of, one_at}
use Rattle.parts.proofs.Cut.{part_below, part_whole}
use Rattle.parts.proofs.one_at.Goals as goal
use Rattle.parts.proofs.one_at.Goals.{After-number_at}

is_number : (c : goal.After-number_at) → c.number_at.result ≡ number_of (take 1 (drop c.args.at c.args.s.now))
is_number c = c.number_at.ensures ∙ part_whole c.args.s.now c.args.at 1 (λ i. (c.type_inv.s i).fits) (omega arith)

pub overflow_cast-result : goal.overflow_cast-result
overflow_cast-result c = record { fits = rw (sym (is_number (goal.at.overflow_cast-result c).After-number_at)) at (part_below c.args.s.now c.args.at 1 (λ i. (c.type_inv.s i).fits)) }

pub returns : goal.returns
unfolding one_at
returns c = is_number (goal.at.returns c).After-number_at
