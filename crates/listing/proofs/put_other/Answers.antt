-- `listing::put_other` puts nothing for 0, and else the word, the number and the line's end.
use mathlib.Core.Path.{sym}
use Rattle.text.proofs.Putting.{◌▹◌}
use Rattle.listing.proofs.Laws.{other_none, other-some}
use Rattle.listing.proofs.put_other.Goals as goal

pub returns-then-n-eq0 : goal.returns-then-n-eq0
returns-then-n-eq0 c = other_none _ _ _ c.if-n-eq0.true

pub returns : goal.returns
returns c = rw (sym (other-some _ c.if-n-eq0.false)) (c.put_all-a.ensures ▹ c.put_decimal-b.ensures ▹ c.put_byte.ensures)
