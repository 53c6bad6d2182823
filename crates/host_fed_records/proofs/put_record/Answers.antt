-- `host_fed_records::put_record` writes each place of a record.
use mathlib.Core.Path.{refl}
use native.Mathlib.Omega.{arith}
use lib.ListN.{length-set}
use Rattle.host_fed_records.proofs.put_record.Goals as goal

pub returns : goal.returns
returns c = rw c.mark-shortest.ensures refl

pub overflow_add-records : goal.overflow_add-records
overflow_add-records c = omega arith

pub bounds-records-at-2 : goal.bounds-records-at-2
bounds-records-at-2 c = simp length-set (omega arith)

pub overflow_add-records-2 : goal.overflow_add-records-2
overflow_add-records-2 c = omega arith

pub bounds-records-at-3 : goal.bounds-records-at-3
bounds-records-at-3 c = simp length-set (omega arith)

pub overflow_add-records-3 : goal.overflow_add-records-3
overflow_add-records-3 c = omega arith

pub bounds-records-at-4 : goal.bounds-records-at-4
bounds-records-at-4 c = simp length-set (omega arith)

pub overflow_add-records-4 : goal.overflow_add-records-4
overflow_add-records-4 c = omega arith

pub bounds-records-at-5 : goal.bounds-records-at-5
bounds-records-at-5 c = simp length-set (omega arith)

pub overflow_add-records-5 : goal.overflow_add-records-5
overflow_add-records-5 c = omega arith

pub bounds-records-at-6 : goal.bounds-records-at-6
bounds-records-at-6 c = simp length-set (omega arith)
