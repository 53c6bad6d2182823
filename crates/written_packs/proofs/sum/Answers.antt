-- `written_packs::sum` meets its contract. The loop's invariant: what was added and the fields that are left make the whole.
use mathlib.Core.Logic.{⊎_elim}
use native.Mathlib.Omega.{arith}
use Rattle.std.proofs.Common.{rules}
use Rattle.written_packs.proofs.Loops.{adding_start, adding_end, adding_room, adding_next}
use Rattle.written_packs.proofs.sum.Goals as goal

pub loop-x-init : goal.loop-x-init
loop-x-init c = adding_start _ _ _ _ c.requires.0 c.requires.1 c.requires.2 (search rules) (search rules)

pub overflow_add-sum : goal.overflow_add-sum
overflow_add-sum c =
    let s = c.in-Some.ensures.steps in
    omega (arith, adding_room _ _ _ _ _ c.loop-x.invariant _ _ _ _ s.0 s.1)

pub loop-x-preserved : goal.loop-x-preserved
loop-x-preserved c =
    let s = c.in-Some.ensures.steps in
    adding_next _ _ _ _ _ c.loop-x.invariant _ _ _ _ s.0 s.1

pub returns : goal.returns
returns c =
    let i = c.loop-x.invariant in
    adding_end _ _ _ _ _ i (⊎_elim (λ h. h.1.0) (λ h. omega (arith, h.1.0, i.as_many)) c.in-None.ensures.steps)
