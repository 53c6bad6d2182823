use native.Mathlib.Omega.{arith}
use Rattle.fed.proofs.Starting.{next_bitten}
use Rattle.fed.proofs.next.Goals as goal

pub returns-then-st-lt4 : goal.returns-then-st-lt4
returns-then-st-lt4 c = next_bitten _ _ _ c.requires.i_in_bounds c.requires.i_bound (omega arith) c.requires.i_value c.sought.result c.sought.ensures

pub bite-requires : goal.bite-requires
bite-requires c = record { i_in_bounds = c.requires.i_in_bounds; i_bound = c.requires.i_bound; le_have = omega arith }

pub returns : goal.returns
returns c = c.bite.ensures
