-- `outline_lines::add_rest` adds the level, the word and the count, or nothing where nothing is left.
use native.Mathlib.Omega.{arith}
use Rattle.outline_lines.specs.Lines.{rest_line}
use Rattle.outline_lines.proofs.Adding.{◌▸◌, added_none, rest-none, rest_some}
use Rattle.outline_lines.proofs.add_rest.Goals as goal

pub returns-then-n-eq0 : goal.returns-then-n-eq0
returns-then-n-eq0 c = rest-none _ _ (omega arith) (added_none _ _ (omega arith) (omega arith))

pub returns : goal.returns
unfolding rest_line
returns c =
    rest_some _ _ c.if-n-eq0.false
    (c.add_decimal-a.ensures ▸ c.add_all-b.ensures ▸ c.add_decimal-c.ensures ▸ c.add_all.ensures)
