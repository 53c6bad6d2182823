-- `host_fed_states::put_key` meets its contract: number by number.
use mathlib.Core.Path.{refl}
use native.Mathlib.Omega.{arith}
use Rattle.host_fed_states.proofs.put_key.Goals as goal

pub returns : goal.returns
returns c = rw (c.put_places.ensures, c.eight_at-first.ensures, c.eight_at-last.ensures, c.from-lead.ensures, c.eight_at-eight.ensures) refl

pub eight_at-first-requires : goal.eight_at-first-requires
eight_at-first-requires c = omega (arith, c.requires.w_in_bounds)

pub eight_at-last-requires : goal.eight_at-last-requires
eight_at-last-requires c = omega (arith, c.requires.w_in_bounds)

pub eight_at-eight-requires : goal.eight_at-eight-requires
eight_at-eight-requires c = omega (arith, c.requires.w_in_bounds)
