-- `text::put_all` puts its bytes: after i turns the first i of them are put.
use Prim.Native.Nat.{◌+◌}
use lib.ListN.{take}
use Rattle.text.specs.Write.{Put}
use Rattle.text.proofs.put_all.Given as goal

abbrev pub invariant-loop-i : goal.invariant-loop-i
invariant-loop-i l = Put (take l.i l.s) l.initial.out l.at l.out (l.at + l.i)
