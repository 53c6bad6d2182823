-- `floats::low_tenths` meets its contract: an f32 holds every i16, so the conversion is exact. Assumes nothing.
use Rattle.std.proofs.Common.{w16}
use mir.ValLaws.{to_z-of_z}
use Rattle.floats.specs.Quotients.{quotient, low_tenths}
use Rattle.floats.proofs.Constants.{ten32}
use Rattle.floats.proofs.low_tenths.Goals as goal

pub returns : goal.returns
unfolding low_tenths quotient
returns c = cc (ten32, to_z-of_z w16 c.signed16.result (record { sfits = c.signed16.type_inv }))
