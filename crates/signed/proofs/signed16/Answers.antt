-- `signed::signed16` meets its contract: the library's cast reads the bits as a signed number. Assumes nothing.
use mir.Syntax.{w16}
use Rattle.signed.proofs.Laws.{read_back}
use Rattle.signed.proofs.signed16.Goals as goal

pub returns : goal.returns
returns c = read_back w16 c.args.v c.ranges.v.fits _ (record { sfits = c.cast_signed.type_inv }) c.cast_signed.ensures
