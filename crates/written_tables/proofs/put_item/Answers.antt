-- `written_tables::put_item` meets its contract: each return is one of a writer's answers.
use Prim.Native.Nat.{◌+◌}
use mathlib.Core.Path.{◌≡◌, ◌∙◌}
use native.Mathlib.Omega.{arith}
use lib.ListN.{length}
use Rattle.std.proofs.Common.{rules}
use Rattle.std.specs.Prelude.{Err}
use Rattle.written_numbers.proofs.Written.{placed-there}
use Rattle.written_lengths.specs.declared.WriteError.TheVariants.{Longer}
use Rattle.written_lengths.proofs.Answers.{wrote-field, wrote-longer, wrote-done}
use Rattle.written_tables.proofs.Items.{good_tag, good_long, good_both, local_length, local_put}
use Rattle.written_tables.proofs.put_item.Goals as goal
use Rattle.written_tables.proofs.put_item.Goals.{then-tag-gt65535-via-then-tag-gt65535, then-tag-gt65535-via-else-tag-gt65535+then-value-gt65535}

pub returns-then-tag-gt65535 : goal.returns-then-tag-gt65535
returns-then-tag-gt65535 c =
    wrote-field _ _ _ _
    (elim c.then-tag-gt65535.branch [
      | then-tag-gt65535-via-then-tag-gt65535 w ↦ good_tag _ _ (omega arith)
      | then-tag-gt65535-via-else-tag-gt65535+then-value-gt65535 w ↦ good_long _ _ (omega arith) (omega arith)
    ])

pub returns-in_err-next : goal.returns-in_err-next
returns-in_err-next c =
    let e : c.from_residual.result ≡ Err (Longer (4 + length c.args.value.now)) = search rules in
    rw e (wrote-longer _ _ _ _ _ (good_both _ _ (omega arith) (omega arith)) (local_length _ _) c.in_err-next.ensures.0)

pub returns : goal.returns
returns c =
    let room = c.in_ok-next.ensures.0 in
    let one = c.put_number.ensures ∙ placed-there _ _ _ _ (omega arith) in
    let two = c.put_number-2.ensures ∙ placed-there _ _ _ _ (omega arith) in
    rw c.in_ok-next.ensures.1
    (wrote-done _ _ _ _ _ (good_both _ _ (omega arith) (omega arith)) (local_length _ _) room _
    (rw (two, one) at c.put_all.ensures.wrote ∙ local_put _ _ _ _))
