-- `floats::finite_f64` meets its contract: the finite values are those below infinity's pattern. Assumes nothing.
use Rattle.std.proofs.Common.{ℕ, ◌*◌, ◌%◌, T, ltb, sym, ap, ◌∙◌, rules}
use lib.Ieee.{binary64, fits, ones, hid, top}
use lib.Ieee.Bits.{of_bits-to_bits}
use lib.Ieee.Scale.{finite}
use Rattle.floats.proofs.Patterns.{finite_below}
use Rattle.floats.proofs.finite_f64.Goals as goal

pub returns : goal.returns
returns c =
    let x = c.args.x in
    let f : T (fits binary64 x) = search rules in
    ap (λ (n : ℕ). ltb (n % top binary64) (ones binary64 * hid binary64)) c.f64_bits.ensures ∙ sym (finite_below binary64 _) ∙ ap finite (of_bits-to_bits binary64 x f)
