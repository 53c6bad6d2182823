-- `shared_index::open` meets its contract.
use native.Mathlib.Omega.{arith}
use mathlib.Core.Path.{sym, ap, ◌∙◌}
use borrow.Author.Tests.{ltb-false}
use Rattle.shared_index.specs.declared.File.{File}
use Rattle.shared_index.proofs.Laws.{opened_out, opened-twice, opened-done}
use Rattle.shared_index.proofs.open.Goals as goal
use Rattle.shared_index.proofs.open.Goals.{then-file-gt1, else-file-gt1}

pub returns-then-f : goal.returns-then-f
returns-then-f c =
    let a = c.args in
    elim c.if-file-gt1.branch [
      | then-file-gt1 w ↦ opened_out a.r a.file (omega (arith, w.if-file-gt1.true))
      | else-file-gt1 w ↦ opened-twice a.r a.file (omega (arith, w.if-file-gt1.false)) (sym (ap (λ (f : File). f.opened) c.file_of-f.ensures) ∙ sym w.value-is ∙ c.if-f.true)
    ]

pub returns-else-f : goal.returns-else-f
returns-else-f c =
    let a = c.args in
    elim c.if-file-gt1.branch [
      | then-file-gt1 w ↦ absurd (omega (arith, ltb-false 1 a.file (sym w.value-is ∙ c.if-f.false), w.if-file-gt1.true))
      | else-file-gt1 w ↦ rw c.change.ensures (opened-done a.r a.file (omega (arith, w.if-file-gt1.false)) (sym (ap (λ (f : File). f.opened) c.file_of-f.ensures) ∙ sym w.value-is ∙ c.if-f.false))
    ]
