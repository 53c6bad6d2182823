-- `descriptor::whole_after` meets its contract: an item that holds the field has its bytes.
use mathlib.Core.Path.{sym, ◌∙◌}
use native.Mathlib.Omega.{arith}
use Rattle.parts.proofs.Parts.{number-there}
use Rattle.descriptor.specs.Fields.{whole_after}
use Rattle.descriptor.proofs.Laws.{there}
use Rattle.descriptor.proofs.whole_after.Goals as goal

pub returns-then-holds : goal.returns-then-holds
unfolding whole_after
returns-then-holds c =
    let a = c.args in
    let h = sym c.holds.ensures ∙ c.if-holds.true in
    let w = there _ _ _ _ h in
    simp (h, sym (c.number_at.ensures ∙ number-there a.value.now 0 a.n (λ i. (c.type_inv.value i).fits) (omega arith) (omega arith)))
