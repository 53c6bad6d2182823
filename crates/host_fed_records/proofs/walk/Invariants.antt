-- `host_fed_records::walk` meets its contract. The loop's invariant: what was put, and what is left from the cursor on, is the whole.
use Prim.Native.Nat.{◌-◌}
use mathlib.Core.Path.{◌≡◌}
use Rattle.host_fed_states.specs.Places.{state_of, seeking_of}
use Rattle.host_fed_records.proofs.Walks.{Walks}
use Rattle.host_fed_records.proofs.walk.Given as goal

abbrev pub invariant-loop-c : goal.invariant-loop-c
invariant-loop-c l =
    Walks (seeking_of (state_of l.initial.state) l.here l.from) l.piece l.i l.n l.most l.initial.records l.initial.labels l.records l.labels l.p l.since l.m × (l.state ≡ l.initial.state)

abbrev pub decreases-loop-c : goal.decreases-loop-c
decreases-loop-c l = l.most - l.m
