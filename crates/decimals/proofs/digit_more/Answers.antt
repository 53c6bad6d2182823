-- `decimals::digit_more` meets its contract: its tests are the definition's.
use Rattle.std.proofs.Common.{arith}
use Rattle.std.proofs.lemmas.Grind.{common_steps}
use Rattle.std.proofs.lemmas.Bool.Decides.{nat_tests}
use Rattle.decimals.specs.Decimal.{digit_more}
use Rattle.decimals.proofs.digit_more.Goals as goal

pub returns-then-not-is_ascii_digit : goal.returns-then-not-is_ascii_digit
unfolding digit_more
returns-then-not-is_ascii_digit c = grind (arith, common_steps, nat_tests, c.if-not-is_ascii_digit.ensures)

pub returns-in_err-checked_mul : goal.returns-in_err-checked_mul
unfolding digit_more
returns-in_err-checked_mul c = rw c.from_residual.ensures (grind (arith, common_steps, nat_tests))

pub returns : goal.returns
unfolding digit_more
returns c = grind (arith, common_steps, nat_tests, c.checked_add.ensures)
