-- `shared_index::is_free` meets its contract.
use native.Mathlib.Omega.{arith}
use mathlib.Core.Bool.{not}
use mathlib.Core.Path.{ap}
use Rattle.shared_index.specs.declared.File.{File}
use Rattle.shared_index.specs.Rooms.{file_of, held_by}
use Rattle.shared_index.proofs.Laws.{free_out, free_in}
use Rattle.shared_index.proofs.is_free.Goals as goal

pub returns-then-r-own : goal.returns-then-r-own
returns-then-r-own c =
    let a = c.args in
    let u = ap (λ (f : File). f.used) c.file_of-own.ensures in
    free_out (file_of a.second a.r).used (held_by (not a.second) a.r) a.r.whole (omega (arith, u, c.if-r-own.true))

pub overflow_sub-result : goal.overflow_sub-result
overflow_sub-result c = omega arith

pub returns : goal.returns
returns c =
    let a = c.args in
    let u = ap (λ (f : File). f.used) c.file_of-own.ensures in
    rw (c.max-held.ensures, c.file_of-own.ensures, c.file_of-other.ensures)
    (free_in (file_of a.second a.r).used (held_by (not a.second) a.r) a.r.whole (omega (arith, u, c.if-r-own.false)))
