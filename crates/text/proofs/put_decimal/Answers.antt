-- `text::put_decimal` puts the number's digits: those that `io::decimal` makes are the definition's.
use mathlib.Core.Path.{sym, ◌∙◌}
use Rattle.text.proofs.Digits.{decimal-is}
use Rattle.text.proofs.put_decimal.Goals as goal

pub returns : goal.returns
returns c =
    let d = c.decimal-k.ensures in
    rw (sym (d.digits ∙ decimal-is _ _ c.ranges.n.fits d.len)) c.put_all.ensures
