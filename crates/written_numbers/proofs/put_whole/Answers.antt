-- `written_numbers::put_whole` meets its contract. The loop's invariant: the bytes that are left to write make the whole.
use Prim.Native.Nat.{ℕ, ◌-◌, suc}
use mathlib.Core.Path.{◌≡◌, sym, ap, ◌∙◌}
use lib.Seq.{sets}
use native.Mathlib.Omega.{arith}
use Rattle.written_numbers.specs.Number.{bytes_of}
use Rattle.written_numbers.proofs.Written.{bytes-step}
use Rattle.written_numbers.proofs.put_whole.Goals as goal

pub loop-i-preserved : goal.loop-i-preserved
loop-i-preserved c =
    let l = c.loop-i in
    let e : l.i ≡ suc (l.i - 1) = omega arith in
    l.invariant ∙ ap (λ (k : ℕ). sets l.out c.args.at (bytes_of k l.v)) e ∙ bytes-step l.out c.args.at (l.i - 1) l.v

pub returns : goal.returns
unfolding bytes_of
returns c = let z : c.loop-i.i ≡ 0 = omega arith in sym (rw z at c.loop-i.invariant)
