-- `index::good` meets its contract.
use borrow.Author.Tests.{lt-ltb, le-ltb, le-leb, lt-leb}
use Rattle.index.specs.Lists.{good_fields}
use Rattle.index.proofs.good.Goals as goal

pub returns-then-e-lt1 : goal.returns-then-e-lt1
unfolding good_fields
returns-then-e-lt1 c = simp (lt-leb _ _ c.if-e-lt1.true)

pub returns-then-e-gt9 : goal.returns-then-e-gt9
unfolding good_fields
returns-then-e-gt9 c = simp (le-leb _ _ c.if-e-lt1.false, lt-leb _ _ c.if-e-gt9.true)

pub returns-then-e-lt64 : goal.returns-then-e-lt64
unfolding good_fields
returns-then-e-lt64 c = simp (le-leb _ _ c.if-e-lt1.false, le-leb _ _ c.if-e-gt9.false, lt-ltb _ _ c.if-e-lt64.true)

pub returns : goal.returns
unfolding good_fields
returns c = rw (le-leb _ _ c.if-e-lt1.false, le-leb _ _ c.if-e-gt9.false, le-ltb _ _ c.if-e-lt64.false)
