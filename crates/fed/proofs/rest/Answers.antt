-- `fed::rest` meets its contract: a law for each return.
use Prim.Native.Nat.{◌+◌, ◌≤◌}
use mathlib.Core.Path.{◌∙◌}
use native.Mathlib.Omega.{arith}
use lib.ListN.{length}
use Rattle.fed.proofs.Reaching.{rest_late, rest-past, rest_in}
use Rattle.fed.proofs.rest.Goals as goal
use Rattle.fed.proofs.rest.Goals.{Else-st-s}

-- the bytes may come
within : (c : goal.Else-st-s) → c.args.st.at + length c.args.s.now ≤ c.args.st.limit
within c = omega (arith, c.if-st.false, c.if-st-s.false)

pub returns-then-st : goal.returns-then-st
returns-then-st c = rest_late _ _ _ (omega (arith, c.if-st.true))

pub returns-then-st-s : goal.returns-then-st-s
returns-then-st-s c = rest_late _ _ _ (omega (arith, c.if-st.false, c.if-st-s.true))

pub returns-then-s-w : goal.returns-then-s-w
returns-then-s-w c = rest-past _ _ _ (within (goal.at.returns-then-s-w c).Else-st-s) c.if-s-w.true

pub returns : goal.returns
returns c = c.keep.ensures ∙ rest_in _ _ _ (within (goal.at.returns c).Else-st-s) (omega (arith, c.if-s-w.false))

pub keep-requires : goal.keep-requires
keep-requires c = record { w_in_bounds = omega (arith, c.if-s-w.false); s_bound = within (goal.at.keep-requires c).Else-st-s }
