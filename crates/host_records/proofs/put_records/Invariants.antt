-- `host_records::put_records` meets its contract. The loop's invariant: what was put, and what the steps left give, is the whole.
use Rattle.std.proofs.Common.{◌-◌}
use Rattle.walk.specs.Told.{cursor_of, step_on}
use Rattle.host_records.proofs.Laws.{Going}
use Rattle.host_records.proofs.put_records.Given as goal

abbrev pub invariant-loop-count : goal.invariant-loop-count
invariant-loop-count l = Going (step_on l.way l.s) l.initial.records (cursor_of l.initial.k) l.records (l.room - l.count) l.count (cursor_of l.k)
