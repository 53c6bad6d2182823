-- `primer_table::tag_of` meets its contract: the tag is the number of the entry's first two bytes.
use mathlib.Core.Path.{◌∙◌}
use native.Mathlib.Omega.{arith}
use Rattle.parts.specs.Bytes.{Bytes}
use Rattle.parts.proofs.Numbers.{number-below}
use Rattle.parts.proofs.Parts.{number_read}
use Rattle.primer.specs.LastWins.{place}
use Rattle.primer.proofs.Laws.{entries_fit}
use Rattle.primer_table.proofs.tag_of.Goals as goal

pub overflow_mul-at : goal.overflow_mul-at
overflow_mul-at c = omega (arith, entries_fit c.args.s.now c.args.i c.requires)

pub overflow_add-at : goal.overflow_add-at
overflow_add-at c = omega (arith, entries_fit c.args.s.now c.args.i c.requires)

pub overflow_add-at-2 : goal.overflow_add-at-2
overflow_add-at-2 c = omega (arith, entries_fit c.args.s.now c.args.i c.requires)

pub slice_bounds-number-end : goal.slice_bounds-number-end
slice_bounds-number-end c = omega (arith, entries_fit c.args.s.now c.args.i c.requires)

pub returns : goal.returns
returns c =
    let bytes : Bytes c.args.s.now = λ i. (c.type_inv.s i).fits in
    let e = c.number.ensures ∙ number_read _ (place c.args.i) 2 bytes (omega arith) (omega (arith, entries_fit c.args.s.now c.args.i c.requires)) in
    record { value = e; upper_bound = rw e (number-below _ (place c.args.i) 2 bytes) }
