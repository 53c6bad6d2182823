-- `written_packs::fit` meets its contract. The loop's invariant: the fields that are left decide.
use mathlib.Core.Path.{sym, ap}
use mathlib.Core.Logic.{⊎_elim}
use native.Mathlib.Omega.{arith}
use lib.ListN.{length}
use Rattle.std.proofs.Common.{rules}
use Rattle.written_packs.proofs.Loops.{fitting-other, first_narrow, bit_moved, fitting_start, fitting_end, fitting_not, fitting_next}
use Rattle.written_packs.proofs.fit.Goals as goal

pub returns-then-fields-table : goal.returns-then-fields-table
returns-then-fields-table c = sym (fitting-other _ _ (λ e. omega (arith, e, ap length c.fields_of-table.ensures)))

pub loop-x-init : goal.loop-x-init
loop-x-init c = fitting_start _ _ _ _ c.requires (omega (arith, ap length c.fields_of-table.ensures)) (search rules) (search rules)

pub returns-then-width-x : goal.returns-then-width-x
returns-then-width-x c =
    let s = c.in-Some.ensures.steps in
    let n = first_narrow _ _ _ s.1 c.loop-x.invariant.within in
    let b = bit_moved c.in-Some.field-0-1.now.1 (omega (arith, n)) in
    sym (fitting_not _ _ _ _ c.loop-x.invariant _ _ _ _ s.0 s.1 (omega (arith, b)))

pub loop-x-preserved : goal.loop-x-preserved
loop-x-preserved c =
    let s = c.in-Some.ensures.steps in
    let n = first_narrow _ _ _ s.1 c.loop-x.invariant.within in
    let b = bit_moved c.in-Some.field-0-1.now.1 (omega (arith, n)) in
    fitting_next _ _ _ _ c.loop-x.invariant _ _ _ _ s.0 s.1 (omega (arith, b))

pub returns : goal.returns
returns c =
    let i = c.loop-x.invariant in
    sym (fitting_end _ _ _ _ i (⊎_elim (λ h. h.1.0) (λ h. omega (arith, h.1.0, i.as_many)) c.in-None.ensures.steps))
