-- `tally::count_in` tallies the walk: what is counted, and then the records that are left, give the whole.
use native.Mathlib.Omega.{arith}
use mathlib.Core.Path.{◌≡◌, sym, ap, ◌∙◌}
use Rattle.std.specs.Prelude.{Ok, length}
use Rattle.steps.specs.Told.{found}
use Rattle.klv.specs.Item.{item}
use Rattle.walk.specs.Walk.{finished_step}
use Rattle.records.proofs.Stepping.{finished_steps}
use Rattle.walk.proofs.Answers.{step-ok, passing-found, passing-nothing}
use Rattle.tally.proofs.Steps.{next}
use Rattle.tally.proofs.Laws.{going_start, going_next, going_over, below_up}
use Rattle.tally.proofs.count_in.Goals as goal
use Rattle.tally.proofs.count_in.Goals.{In-Record}

pub loop-k-init : goal.loop-k-init
loop-k-init c = going_start _ _ _

pub unwrap-requires : goal.unwrap-requires
unwrap-requires c = step-ok _ _ _ c.step.ensures

pub returns : goal.returns
returns c =
    let rests = passing-nothing _ _ _ (rw (c.unwrap.ensures ∙ ap Ok c.in_default.is) at c.step.ensures) in
    let all = going_over c.loop-k.invariant c.requires.in_bounds c.requires.in_bounds_2 ((finished_steps _ _ (omega arith)).over _ _ rests.0) in
    record { value = all.0; firsts_after = all.1.0; counts_after = all.1.1 }

is_next : (c : goal.In-Record)
    → finished_step c.args.s.now (length c.args.s.now) c.loop-k.c.at ≡ found (item 16 c.args.s.now c.in-Record.k) c.in-Record.next.at
is_next c = (passing-found _ _ _ _ (rw (c.unwrap.ensures ∙ ap Ok c.in-Record.is) at c.step.ensures)).plain

pub add-t-requires : goal.add-t-requires
add-t-requires c =
    let i = c.loop-k.invariant in
    let n = next _ _ _ _ (is_next (goal.at.add-t-requires c).In-Record) in
    record { p_in_bounds = omega (arith, n); groups_bound = i.kept.room; in_bounds = omega (arith, i.len_f, c.requires.in_bounds); in_bounds_2 = omega (arith, i.len_c, c.requires.in_bounds_2); below = below_up _ _ _ _ n.from i.below }

pub loop-k-smaller : goal.loop-k-smaller
loop-k-smaller c = omega (arith, next _ _ _ _ (is_next (goal.at.loop-k-smaller c).In-Record))

pub loop-k-preserved : goal.loop-k-preserved
loop-k-preserved c =
    let e = is_next (goal.at.loop-k-preserved c).In-Record in
    going_next c.loop-k.invariant _ _ (sym e) (next _ _ _ _ e) c.add-t.ensures c.add-t.auto.firsts c.add-t.auto.counts
