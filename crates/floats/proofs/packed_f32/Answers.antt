-- `floats::packed_f32` meets its contract: the unit is 2 ^ dropped, and the library has `min`. Assumes nothing.
use Rattle.std.proofs.Common.{◌≡◌, ℕ, ◌*◌, ◌%◌, ◌^◌, ◌<◌, ap, ◌∙◌, one-mul, arith, lit<, pow_pos, pow_mono, shl_exact}
use lib.Ieee.{binary32}
use lib.Ieee.Nearest.{closest}
use Rattle.floats.specs.Rounding.{packed_bits}
use Rattle.floats.proofs.Halves.{at_most}
use Rattle.floats.proofs.packed_f32.Goals as goal
use Rattle.floats.proofs.packed_f32.Goals.{After-closest}

power : (d : ℕ) → d < 64 → 1 * 2 ^ d % 2 ^ 64 ≡ 2 ^ d
power d h = shl_exact {a = 1} 1 d 64 (lit< tt) (omega arith) ∙ one-mul (2 ^ d)

-- the digits that are kept
digits_are : (c : goal.After-closest) → c.closest.result ≡ closest c.args.digits (2 ^ c.args.dropped)
digits_are c = c.closest.ensures ∙ ap (closest c.args.digits) (power c.args.dropped c.requires.2)

pub closest-requires : goal.closest-requires
closest-requires c =
    let d = c.args.dropped in
    let e = power d c.requires.2 in
    (omega (arith, pow_pos d), omega (arith, pow_mono {i = d} {j = 63} (omega arith)))

pub overflow_add-bits : goal.overflow_add-bits
overflow_add-bits c = omega (arith, digits_are (goal.at.overflow_add-bits c).After-closest, at_most c.args.digits (2 ^ c.args.dropped))

pub returns : goal.returns
unfolding packed_bits
returns c = (rw c.from.ensures at c.min.ensures) ∙ ap (packed_bits binary32 c.args.raised) (digits_are (goal.at.returns c).After-closest)
