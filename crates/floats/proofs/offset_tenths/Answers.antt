-- `floats::offset_tenths` meets its contract: an f64 holds every i32, so the conversion is exact. Assumes nothing.
use Rattle.std.proofs.Common.{w32}
use mir.ValLaws.{to_z-of_z}
use Rattle.floats.specs.Quotients.{quotient, offset_tenths}
use Rattle.floats.proofs.Constants.{ten64}
use Rattle.floats.proofs.offset_tenths.Goals as goal

pub returns : goal.returns
unfolding offset_tenths quotient
returns c = cc (ten64, to_z-of_z w32 c.around16.result (record { sfits = c.around16.type_inv }))
