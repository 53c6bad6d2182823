-- `written_packs::put_pack` meets its contract: each return is one of a writer's answers.
use mathlib.Core.Path.{◌≡◌, sym, ◌∙◌}
use mathlib.Core.Bool.{true, false}
use native.Mathlib.Omega.{arith}
use lib.ListN.{length-set}
use Rattle.std.proofs.Common.{rules}
use Rattle.std.specs.Prelude.{Err}
use Rattle.written_numbers.proofs.Written.{placed-there}
use Rattle.written_lengths.specs.declared.WriteError.TheVariants.{Longer}
use Rattle.written_lengths.proofs.Answers.{wrote-field, wrote-longer, wrote-done}
use Rattle.written_packs.proofs.Packs.{good_low, good_high, good_by, pack-length, pack-put}
use Rattle.written_packs.proofs.put_pack.Goals as goal
use Rattle.written_packs.proofs.put_pack.Goals.{then-id-lt1-via-then-id-lt1, then-id-lt1-via-else-id-lt1+then-id-gt20, then-id-lt1-via-else-id-lt1+else-id-gt20+then-not-fit}

pub returns-then-id-lt1 : goal.returns-then-id-lt1
returns-then-id-lt1 c =
    wrote-field _ _ _ _
    (elim c.then-id-lt1.branch [
      | then-id-lt1-via-then-id-lt1 w ↦ good_low _ _ (omega arith)
      | then-id-lt1-via-else-id-lt1+then-id-gt20 w ↦ good_high _ _ (omega arith)
      | then-id-lt1-via-else-id-lt1+else-id-gt20+then-not-fit w ↦ good_by _ _ (omega arith) (omega arith) false (sym w.fit.ensures ∙ w.if-not-fit.true)
    ])

pub returns-in_err-next : goal.returns-in_err-next
returns-in_err-next c =
    let e : c.from_residual.result ≡ Err (Longer 5) = search rules in
    rw e
    (wrote-longer _ _ _ _ 5 (good_by _ _ (omega arith) (omega arith) true (sym c.fit.ensures ∙ c.if-not-fit.false)) (pack-length _ _) c.in_err-next.ensures.0)

pub returns : goal.returns
returns c =
    let room = c.in_ok-next.ensures.0 in
    rw c.in_ok-next.ensures.1
    (wrote-done _ _ _ _ 5 (good_by _ _ (omega arith) (omega arith) true (sym c.fit.ensures ∙ c.if-not-fit.false)) (pack-length _ _) room
    _ (c.put_number.ensures ∙ placed-there _ _ _ _ (simp length-set (omega arith)) ∙ pack-put _ _ _ _ _ c.sum.ensures))
