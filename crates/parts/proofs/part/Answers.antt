-- `parts::part` meets its contract: the start is cut to the length, and the count to what is left of it.
use native.Mathlib.Nat.{add-sub_cancel_left}
use Rattle.parts.proofs.Parts.{part_cut}
use Rattle.parts.proofs.part.Goals as goal

pub returns : goal.returns
returns c =
    let a = c.args in
    rw (add-sub_cancel_left, c.min.ensures, c.min-start.ensures) (part_cut a.s.now a.at a.len)
