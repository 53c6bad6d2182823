-- `labels::same_bytes` meets its contract: each number is read whole.
use mathlib.Core.Path.{refl}
use native.Mathlib.Omega.{arith}
use Rattle.parts.specs.Bytes.{Bytes}
use Rattle.parts.proofs.Parts.{number_read}
use Rattle.labels.proofs.same_bytes.Goals as goal

pub returns : goal.returns
returns c =
    let a : Bytes c.args.a.now = λ i. (c.type_inv.a i).fits in
    let b : Bytes c.args.b.now = λ i. (c.type_inv.b i).fits in
    rw (c.number.ensures, c.number-2.ensures, number_read c.args.a.now c.args.i c.args.n a (omega arith) (omega arith), number_read c.args.b.now c.args.j c.args.n b (omega arith) (omega arith)) refl
