-- `index::put_slot` meets its contract: three numbers are stored, each where there is room for it.
use Prim.Native.Nat.{ℕ, ◌+◌, ◌*◌}
use mathlib.Core.Path.{◌∙◌}
use mathlib.Core.List.{List}
use native.Mathlib.Omega.{arith}
use lib.Seq.{sets, length-sets}
use Rattle.written_numbers.specs.Number.{bytes_of}
use Rattle.written_numbers.proofs.Written.{placed-there}
use Rattle.index.specs.Places.{start_place, rest_place}
use Rattle.index.proofs.Laws.{within}
use Rattle.index.proofs.put_slot.Goals as goal

pub overflow_add-next : goal.overflow_add-next
overflow_add-next c =
    let a = c.args in
    let h = c.requires in
    omega (arith, c.rest_place-rest.ensures, within a.l a.room a.s h.0, h)

pub returns : goal.returns
returns c =
    let a = c.args in
    let h = c.requires in
    let w = within a.l a.room a.s h.0 in
    let P : ℕ = start_place a.l a.s in
    let R : ℕ = rest_place a.l a.room a.s in
    let both : ℕ = a.e.size * 4096 + a.e.group in
    let A : List ℕ = sets a.b.now P (bytes_of 6 a.e.start) in
    let B : List ℕ = sets A R (bytes_of 2 both) in
    let l = length-sets a.b.now P (bytes_of 6 a.e.start) in
    let m = length-sets A R (bytes_of 2 both) in
    let p = c.start_place-at.ensures in
    let r = c.rest_place-rest.ensures in
    let x = rw p at c.put_number.ensures ∙ placed-there a.b.now P 6 a.e.start (omega (arith, w, h)) in
    let y = rw (r, x) at c.put_number-2.ensures ∙ placed-there A R 2 both (omega (arith, w, h)) in
    rw (r, y) at c.put_number-3.ensures ∙ placed-there B (R + 2) 8 a.e.len (omega (arith, w, h))
