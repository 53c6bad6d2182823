-- `outline_lines::add_decimal` adds the digits that stand in its own room.
use mathlib.Core.Path.{refl}
use Rattle.outline_lines.proofs.Adding.{digits_taken, digits_added}
use Rattle.outline_lines.proofs.add_decimal.Goals as goal

pub slice_bounds-add_all-end : goal.slice_bounds-add_all-end
slice_bounds-add_all-end c = digits_taken _ refl c.put_decimal-k.ensures

pub returns : goal.returns
returns c = digits_added _ refl c.put_decimal-k.ensures c.add_all.ensures
