-- `frame_differences::row` answers what its calls say.
use mathlib.Core.Path.{◌≡◌, refl}
use Rattle.std.proofs.Common.{rules}
use Rattle.frame_differences.specs.Said.{said_of}
use Rattle.frame_differences.proofs.row.Goals as goal

pub returns : goal.returns
unfolding said_of
returns c =
    let i : c.map.result ≡ c.args.f.exposure_index = search rules in
    let w : c.map-2.result ≡ c.args.f.white_balance = search rules in
    rw (
      c.of_single.ensures,
      c.of_distance.ensures,
      c.of_t_stop.ensures,
      c.of_double.ensures,
      c.of_single-2.ensures,
      c.of_tilt_roll.ensures,
      c.of_whole.ensures,
      i,
      c.of_whole-2.ensures,
      w,
      c.of_double-2.ensures,
      c.of_double-3.ensures,
      c.of_factors.ensures,
      c.of_whole-3.ensures,
      c.of_whole-4.ensures,
      c.of_whole-5.ensures,
      c.of_whole-6.ensures,
      c.of_whole-7.ensures,
      c.of_whole-8.ensures,
      c.of_double-4.ensures,
      c.of_double-5.ensures,
    )
    refl
