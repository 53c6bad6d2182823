-- `text::put_hex` puts the hex of its bytes: after i turns that of the first i is put.
use native.Mathlib.Omega.{arith}
use Rattle.text.proofs.Putting.{length-put}
use Rattle.text.proofs.Digits.{hex_none, hex_next, hex_end}
use Rattle.text.proofs.put_hex.Goals as goal

pub loop-b-init : goal.loop-b-init
loop-b-init c = hex_none _ _

pub hex_digit-requires : goal.hex_digit-requires
hex_digit-requires c = omega (arith, c.type_inv.s c.loop-b.b-index)

pub loop-b-preserved : goal.loop-b-preserved
loop-b-preserved c =
    let l = c.loop-b in
    hex_next _ l.b-index (omega arith) c.hex_digit.ensures c.hex_digit-in-loop-b.ensures
    l.invariant c.put_byte-p.ensures c.put_byte-p-in-loop-b.ensures

pub shape_of-out : goal.shape_of-out
shape_of-out c = length-put c.loop-b.invariant

pub returns : goal.returns
returns c = let l = c.loop-b in hex_end _ l.b-index (omega arith) l.invariant
