-- `frame_walks::seek` meets its contract. The loop's invariant: the next of what is shown from where it stands is the one that was asked for, and
-- walking last went on no later than there.
use Rattle.std.proofs.lemmas.Result.{err_from_is_err_and}
use Rattle.std.proofs.Common.{◌-◌, sym, refl, ◌∙◌, arith, Ok, ap}
use Rattle.frame_walks.proofs.Seeks.{frame_refused, frame-within, Leads, leads_by, not-beyond}
use Rattle.frame_walks.proofs.seek.Goals as goal

pub returns-in_err-bounds : goal.returns-in_err-bounds
returns-in_err-bounds c =
    let p = err_from_is_err_and c.from_residual.result c.from_residual.ensures.1 in
    rw (p.1, p.2) (frame_refused _ _ _ _ _ (sym c.bounds.ensures ∙ c.in_err-bounds.was))

pub loop-found-init : goal.loop-found-init
loop-found-init c = (refl, omega (arith, c.min.ensures))

pub look-requires : goal.look-requires
look-requires c = record { s_value = not-beyond _ _ _ (sym c.bounds.ensures ∙ c.in_ok-bounds.was); since_le_at = c.loop-found.invariant.1 }

pub returns-in-Break : goal.returns-in-Break
unfolding Leads
returns-in-Break c =
    leads_by _ _ _ _ _ (sym c.in-Break.is ∙ c.look.ensures) _ ∙ c.loop-found.invariant.0 ∙ rw c.min.ensures (sym (frame-within _ _ _ (not-beyond _ _ _ (sym c.bounds.ensures ∙ c.in_ok-bounds.was)) _))

pub loop-found-smaller : goal.loop-found-smaller
unfolding Leads
loop-found-smaller c =
    let m = leads_by _ _ _ _ _ (sym c.in-Continue.is ∙ c.look.ensures) in
    omega (arith, m.1, m.2)

pub loop-found-preserved : goal.loop-found-preserved
unfolding Leads
loop-found-preserved c =
    let m = leads_by _ _ _ _ _ (sym c.in-Continue.is ∙ c.look.ensures) in
    (sym m.0 ∙ c.loop-found.invariant.0, m.3)
