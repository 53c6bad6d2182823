-- `decimals::number` meets its contract: the number so far and the digits that are left say what the word says.
use mathlib.Core.Path.{◌≡◌}
use lib.ListN.{drop}
use Rattle.decimals.specs.Decimal.{digits_from, number_in}
use Rattle.decimals.proofs.number.Given as goal

abbrev pub invariant-loop-d : goal.invariant-loop-d
invariant-loop-d l = digits_from l.n (drop l.d-index l.s) ≡ number_in l.s
