-- `written_klvs::rewrite` meets its contract: the length is known before anything is written.
use mathlib.Core.Path.{refl, sym}
use native.Mathlib.Nat.{zero-add}
use native.Mathlib.Omega.{arith}
use Rattle.written_lengths.proofs.Answers.{wrote-longer, wrote-done}
use Rattle.written_klvs.proofs.rewrite.Goals as goal

pub returns-then-out-n : goal.returns-then-out-n
returns-then-out-n c = wrote-longer _ _ _ _ _ refl (sym c.length_of-n.ensures) (omega arith)

pub returns : goal.returns
returns c =
    rw (← zero-add c.length_of-n.result)
    (wrote-done _ _ _ _ _ refl (sym c.length_of-n.ensures) (omega arith) _ c.put_run.ensures)
