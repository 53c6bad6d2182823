-- `text::put_hex` puts the hex of its bytes: after some turns that of the first bytes is put.
use lib.ListN.{take}
use Rattle.text.specs.Write.{Put, hex_of}
use Rattle.text.proofs.put_hex.Given as goal

abbrev pub invariant-loop-b : goal.invariant-loop-b
invariant-loop-b l = Put (hex_of (take l.b-index l.s)) l.initial.out l.at l.out l.p
