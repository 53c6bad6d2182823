-- `written_tables::put_primer` meets its contract: each return is one of a writer's answers.
use Prim.Native.Nat.{ℕ, ◌+◌, ◌-◌, ◌*◌}
use mathlib.Core.Path.{◌≡◌, sym, ap, ◌∙◌}
use mathlib.Core.List.{◌++◌}
use mathlib.Core.Bool.{true, false}
use native.Mathlib.Omega.{arith}
use lib.ListN.{length, take, drop}
use Rattle.std.proofs.Common.{rules}
use Rattle.std.specs.Prelude.{Err}
use Rattle.written_numbers.proofs.Written.{placed-there}
use Rattle.written_lengths.specs.declared.WriteError.TheVariants.{Longer}
use Rattle.written_lengths.proofs.Answers.{wrote-field, wrote-longer, wrote-done}
use Rattle.written_lengths.proofs.Forms.{part_put}
use Rattle.written_tables.proofs.Primers.{entries-length, good_many, good_labels, good_by, primer_length, primer_put}
use Rattle.written_tables.proofs.put_primer.Goals as goal
use Rattle.written_tables.proofs.put_primer.Goals.{then-n-gt4294967295-via-then-n-gt4294967295, then-n-gt4294967295-via-else-n-gt4294967295+then-labels-n, then-n-gt4294967295-via-else-n-gt4294967295+else-labels-n+then-not-tags_fit}

pub returns-then-n-gt4294967295 : goal.returns-then-n-gt4294967295
returns-then-n-gt4294967295 c =
    wrote-field _ _ _ _
    (elim c.then-n-gt4294967295.branch [
      | then-n-gt4294967295-via-then-n-gt4294967295 w ↦ good_many _ _ (omega arith)
      | then-n-gt4294967295-via-else-n-gt4294967295+then-labels-n w ↦ good_labels _ _ (omega arith) (λ e. omega arith)
      | then-n-gt4294967295-via-else-n-gt4294967295+else-labels-n+then-not-tags_fit w ↦
          good_by _ _ (omega arith) (omega arith) false (sym w.tags_fit.ensures ∙ w.if-not-tags_fit.true)
    ])

pub returns-in_err-next : goal.returns-in_err-next
returns-in_err-next c =
    let e : c.from_residual.result ≡ Err (Longer (8 + 18 * length c.args.tags.now)) = search rules in
    rw e
    (wrote-longer _ _ _ _ _ (good_by _ _ (omega arith) (omega arith) true (sym c.tags_fit.ensures ∙ c.if-not-tags_fit.false))
    (primer_length _ _ (omega arith)) c.in_err-next.ensures.0)

pub returns : goal.returns
returns c =
    let room = c.in_ok-next.ensures.0 in
    let one = c.put_number.ensures ∙ placed-there _ _ _ _ (omega arith) in
    let two = c.put_number-2.ensures ∙ placed-there _ _ _ _ (omega arith) in
    let at : ℕ = c.args.at + 8 in
    let o = c.put_number-2.new.out in
    let n : ℕ = 18 * length c.args.tags.now in
    let end : c.args.at + (8 + n) ≡ at + n = omega arith in
    let part = ap (λ (e : ℕ). take at o ++ (c.put_entries.new.entries ++ drop (e - at) (drop at o))) end
    ∙ part_put _ o _ at n (omega (arith, room, c.put_number.auto.out, c.put_number-2.auto.out)) (entries-length _ _ (omega arith)) c.put_entries.ensures in
    rw c.in_ok-next.ensures.1
    (wrote-done _ _ _ _ _ (good_by _ _ (omega arith) (omega arith) true (sym c.tags_fit.ensures ∙ c.if-not-tags_fit.false))
    (primer_length _ _ (omega arith)) room _
    (part ∙ rw (two, one) (primer_put _ _ _ _)))
