-- `items::Coding::of_set` meets its contract, case by case.
use native.Mathlib.Omega.{arith}
use Rattle.items.proofs.Codings.{coding-ber, coding-two, coding-short}
use Rattle.items.proofs.Coding.of_set.Goals as goal

pub returns-then-label-lt6 : goal.returns-then-label-lt6
returns-then-label-lt6 c = coding-short _ (omega arith)

pub returns-then-label-eq19 : goal.returns-then-label-eq19
returns-then-label-eq19 c = coding-ber _ (omega arith)

pub returns : goal.returns
returns c = coding-two _ (λ e. omega arith)
