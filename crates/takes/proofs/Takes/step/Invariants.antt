-- `takes::Takes::step` meets its contract: while both have the same, the next difference from where it stands is the one that was asked for.
use Rattle.std.proofs.Common.{◌≡◌, ◌-◌}
use Rattle.takes.specs.Takes.{next_from}
use Rattle.takes.proofs.Takes.step.Given as goal

abbrev pub invariant-loop-found : goal.invariant-loop-found
invariant-loop-found l = next_from l.main l.main_end l.backup l.backup_end l.t ≡ next_from l.main l.main_end l.backup l.backup_end l.initial.t

abbrev pub decreases-loop-found : goal.decreases-loop-found
decreases-loop-found l = l.main_end - l.t.main
