-- `canon_sequence::position_after` meets its contract: its tests are the definition's.
use mathlib.Core.Path.{ap, ◌∙◌}
use native.Mathlib.Nat.{mod-eq_of_lt}
use native.Mathlib.Omega.{arith}
use lib.ListN.{length}
use borrow.Author.Tests.{eq-eqb}
use mir.Syntax.{w64}
use mir.ValLaws.{to_z-of_z}
use Rattle.std.specs.Prelude.{Some}
use Rattle.signed.specs.Signed.{signed_bits}
use Rattle.parts.proofs.Numbers.{number_fits}
use Rattle.canon_sequence.specs.Sequence.{position_after}
use Rattle.canon_sequence.proofs.position_after.Goals as goal

pub returns : goal.returns
unfolding position_after
returns c =
    let v = c.args.value.now in
    let n = c.number.ensures ∙ mod-eq_of_lt (number_fits v 0 (length v) (λ i. (c.type_inv.value i).fits) (omega arith)) in
    simp (eq-eqb _ _ c.if-tag-field.false, eq-eqb _ _ c.if-value-ne8.false)
    (ap Some (to_z-of_z w64 c.signed64.result (record { sfits = c.signed64.type_inv }) ∙ c.signed64.ensures ∙ ap (signed_bits 64) n))
