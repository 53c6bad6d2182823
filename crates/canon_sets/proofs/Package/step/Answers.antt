-- `canon_sets::Package::step` meets its contract. The loop's invariant: the cursor has the values of the one that was given.
use mathlib.Core.Path.{◌≡◌, refl, sym, ◌∙◌}
use native.Mathlib.Omega.{arith}
use Rattle.canon_sets.specs.Package.{values_from}
use Rattle.canon_sets.proofs.Laws.{clamped, first-none, first-is}
use Rattle.canon_sets.proofs.Package.step.Goals as goal
use Rattle.canon_sets.proofs.Package.step.Goals.{At-loop-k}

same : (c : goal.At-loop-k) → values_from c.args.s.now c.loop-k.from c.loop-k.end
    ≡ values_from c.args.s.now c.args.self.from c.args.self.end
same c = c.loop-k.invariant.1 ∙ clamped _ _ _ _ c.min-from.ensures

pub loop-k-init : goal.loop-k-init
loop-k-init c = (omega (arith, c.min-from.ensures), refl)

pub returns-in-Value : goal.returns-in-Value
returns-in-Value c =
    let w = rw c.in-Value.is at c.turn_at.ensures in
    rw w.1 (first-is _ _ _ _ (sym (same (goal.at.returns-in-Value c).At-loop-k) ∙ w.0))

pub returns-in-Over : goal.returns-in-Over
returns-in-Over c = first-none _ _ (sym (same (goal.at.returns-in-Over c).At-loop-k) ∙ (rw c.in-Over.is at c.turn_at.ensures))

pub loop-k-smaller : goal.loop-k-smaller
loop-k-smaller c = (rw c.in-On.is at c.turn_at.ensures).1.up

pub loop-k-preserved : goal.loop-k-preserved
loop-k-preserved c =
    let w = rw c.in-On.is at c.turn_at.ensures in
    (w.1.within, sym w.0 ∙ c.loop-k.invariant.1)
