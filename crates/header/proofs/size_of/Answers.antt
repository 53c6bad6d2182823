-- `header::size_of` meets its contract: the second number is cut to what the first leaves.
use Prim.Native.Nat.{◌+◌}
use mathlib.Core.Path.{◌∙◌}
use native.Mathlib.Omega.{arith}
use Rattle.parts.specs.Bytes.{Bytes}
use Rattle.parts.proofs.Parts.{number_read}
use Rattle.header.specs.Header.{size_of}
use Rattle.header.proofs.size_of.Goals as goal

pub returns : goal.returns
unfolding size_of
returns c =
    let a = c.args in
    let bytes : Bytes a.s.now = λ i. (c.type_inv.s i).fits in
    let m = c.number.ensures ∙ number_read a.s.now (a.v + 32) 8 bytes (omega arith) (omega arith) in
    let n = c.number-2.ensures ∙ number_read a.s.now (a.v + 4) 4 bytes (omega arith) (omega arith) in
    omega (arith, m, n)
