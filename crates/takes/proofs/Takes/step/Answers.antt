-- `takes::Takes::step` meets its contract: while both have the same, the next difference from where it stands is the one that was asked for.
use Rattle.std.proofs.Common.{sym, refl, ap, ◌∙◌, arith, Ok, Some}
use Rattle.std.specs.Prelude.{Option}
use Rattle.takes.specs.declared.Difference.{Difference}
use Rattle.takes.proofs.Nexts.{next_differs, next-over, next-same, first-refused, second-refused, none-refused}
use Rattle.takes.proofs.Takes.step.Goals as goal

pub returns-then-main-main_end : goal.returns-then-main-main_end
returns-then-main-main_end c = first-refused _ _ _ _ _ (omega arith)

pub returns-then-backup-backup_end : goal.returns-then-backup-backup_end
returns-then-backup-backup_end c = second-refused _ _ _ _ _ (omega arith) (omega arith)

pub loop-found-init : goal.loop-found-init
loop-found-init c = refl

pub returns-in-Some-found : goal.returns-in-Some-found
returns-in-Some-found c =
    let l = c.loop-found in
    ap Ok (sym (next_differs _ _ l.t _ _ _ _ (rw (sym c.next_of.ensures, sym c.next_of-in-loop-found.ensures) (sym c.meet.ensures ∙ c.in-Some.is ∙ ap (λ (d : Option Difference). Some (d, c.in-Some.u)) c.in-Some-found.is))) ∙ l.invariant) ∙ none-refused _ _ _ _ _ (omega arith) (omega arith)

pub returns : goal.returns
returns c =
    let l = c.loop-found in
    ap Ok (sym (next-over _ _ l.t _ _ (rw (sym c.next_of.ensures, sym c.next_of-in-loop-found.ensures) (sym c.meet.ensures ∙ c.in_default.is))) ∙ l.invariant) ∙ none-refused _ _ _ _ _ (omega arith) (omega arith)

pub loop-found-smaller : goal.loop-found-smaller
loop-found-smaller c =
    let l = c.loop-found in
    let g = next-same _ _ l.t _ _ _ _ _ c.next_of.ensures c.next_of-in-loop-found.ensures (sym c.meet.ensures ∙ c.in-Some.is ∙ ap (λ (d : Option Difference). Some (d, c.in-Some.u)) c.in_default-found.is) (omega arith) (omega arith) in
    omega (arith, g.1, g.2)

pub loop-found-preserved : goal.loop-found-preserved
loop-found-preserved c =
    let l = c.loop-found in
    let g = next-same _ _ l.t _ _ _ _ _ c.next_of.ensures c.next_of-in-loop-found.ensures (sym c.meet.ensures ∙ c.in-Some.is ∙ ap (λ (d : Option Difference). Some (d, c.in-Some.u)) c.in_default-found.is) (omega arith) (omega arith) in
    sym g.0 ∙ l.invariant
