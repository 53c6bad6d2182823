-- `take_figures::put_bits` puts the bytes that were written.
use mathlib.Core.Path.{sym, ap, ◌∙◌}
use native.Mathlib.Omega.{arith}
use lib.ListN.{length}
use Rattle.written_numbers.proofs.Written.{bytes-length}
use Rattle.take_figures.proofs.Laws.{written}
use Rattle.take_figures.proofs.put_bits.Goals as goal

pub slice_bounds-put_hex-end : goal.slice_bounds-put_hex-end
slice_bounds-put_hex-end c = sym (ap length (written _ _ _ _ (omega (arith, c.requires)) c.put_number.ensures) ∙ bytes-length _ _)

pub returns : goal.returns
returns c = rw (sym (written _ _ _ _ (omega (arith, c.requires)) c.put_number.ensures)) c.put_hex.ensures
