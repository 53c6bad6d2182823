-- `signed::signed64` meets its contract: the library's cast reads the bits as a signed number. Assumes nothing.
use mir.Syntax.{w64}
use Rattle.signed.proofs.Laws.{read_back}
use Rattle.signed.proofs.signed64.Goals as goal

pub returns : goal.returns
returns c = read_back w64 c.args.v c.ranges.v.fits _ (record { sfits = c.cast_signed.type_inv }) c.cast_signed.ensures
