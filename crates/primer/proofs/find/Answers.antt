-- `primer::find` meets its contract. The loop's invariant: no entry from i on has the tag, so those before decide.
use Prim.Native.Nat.{◌+◌, ◌-◌, ◌*◌, ◌≤◌}
use mathlib.Core.Path.{◌≡◌, sym, ap, ◌∙◌}
use native.Mathlib.Omega.{arith}
use lib.ListN.{length}
use Rattle.primer.specs.Primer.{last_of}
use Rattle.primer.proofs.Laws.{last_hit, last_missed, last_none, entries_fit, entry-last}
use Rattle.primer.proofs.find.Goals as goal
use Rattle.primer.proofs.find.Goals.{In-loop-i}

-- the entry that is looked at is whole
whole : (c : goal.In-loop-i) → 8 + 18 * (c.loop-i.i - 1) + 18 ≤ length c.args.s.now
whole c = omega (arith, entries_fit c.args.s.now (c.loop-i.i - 1) (omega (arith, c.loop-i.invariant.0)))

pub loop-i-init : goal.loop-i-init
loop-i-init c = (omega (arith, c.entries-n.ensures), ap (last_of _ _) c.entries-n.ensures ∙ entry-last _ _)

pub overflow_mul-at : goal.overflow_mul-at
overflow_mul-at c = omega (arith, whole (goal.at.overflow_mul-at c).In-loop-i)

pub overflow_add-at : goal.overflow_add-at
overflow_add-at c = omega (arith, whole (goal.at.overflow_add-at c).In-loop-i)

pub has-requires : goal.has-requires
has-requires c = whole (goal.at.has-requires c).In-loop-i

pub overflow_add-result : goal.overflow_add-result
overflow_add-result c = omega (arith, whole (goal.at.overflow_add-result c).In-loop-i)

pub returns-then-has : goal.returns-then-has
returns-then-has c =
    sym (last_hit _ _ c.loop-i.i (omega arith) (sym c.has.ensures ∙ c.if-has.true)) ∙ c.loop-i.invariant.1

pub loop-i-preserved : goal.loop-i-preserved
loop-i-preserved c =
    (omega (arith, c.loop-i.invariant.0), last_missed _ _ c.loop-i.i (omega arith) (sym c.has.ensures ∙ c.if-has.false) ∙ c.loop-i.invariant.1)

pub returns : goal.returns
returns c =
    let z : 0 ≡ c.loop-i.i = omega arith in
    last_none _ _ ∙ ap (last_of _ _) z ∙ c.loop-i.invariant.1
