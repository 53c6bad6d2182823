-- `written_tables::put_entries` meets its contract. The loop's invariant: what was written, and what is left, is the whole.
use mathlib.Core.Path.{sym, ◌∙◌}
use mathlib.Core.Logic.{⊎_elim}
use native.Mathlib.Omega.{arith}
use Rattle.written_numbers.proofs.Written.{placed-there}
use Rattle.written_lengths.proofs.Forms.{sets_all}
use Rattle.written_tables.proofs.Primers.{entries-length, putting_end, putting_room, putting_next}
use Rattle.written_tables.proofs.put_entries.Goals as goal

pub loop-tag-preserved : goal.loop-tag-preserved
loop-tag-preserved c =
    let s = c.in-Some.ensures.steps in
    let room = putting_room _ _ _ _ _ _ _ _ _ c.loop-tag.invariant _ _ s.0 (omega (arith, c.requires)) in
    putting_next _ _ _ _ _ _ _ _ _ c.loop-tag.invariant _ _ _ _ _ s.0 s.1.1.0 s.1.1.1 s.1.0 _ _
    (c.put_number.ensures ∙ placed-there _ _ _ _ (omega (arith, room))) c.put_all.ensures.wrote

pub returns : goal.returns
returns c =
    putting_end _ _ _ _ _ _ _ _ _ c.loop-tag.invariant
    (⊎_elim (λ h. h.1.0) (λ h. omega (arith, h.1, c.loop-tag.invariant)) c.in-None.ensures.steps)
    ∙ sets_all _ _ (entries-length _ _ c.requires.0 ∙ sym c.requires.1)
