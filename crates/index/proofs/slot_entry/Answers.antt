-- `index::slot_entry` meets its contract: three numbers of bytes that are there.
use Prim.Native.Nat.{ℕ, ◌+◌, ◌/◌, ◌^◌}
use mathlib.Core.Path.{◌≡◌, refl, ap, ◌∙◌}
use native.Mathlib.Omega.{arith}
use Rattle.parts.specs.Bytes.{Bytes}
use Rattle.parts.specs.Number.{number_at}
use Rattle.parts.proofs.Numbers.{number-below}
use Rattle.index.specs.Places.{start_place, rest_place}
use Rattle.index.proofs.Laws.{within, six_of_eight, two_of_eight}
use Rattle.index.proofs.slot_entry.Goals as goal

pub eight_at-start-requires : goal.eight_at-start-requires
eight_at-start-requires c =
    let a = c.args in
    let h = c.requires in
    omega (arith, c.start_place-at.ensures, within a.l a.room a.s h.0, h)

pub eight_at-both-requires : goal.eight_at-both-requires
eight_at-both-requires c =
    let a = c.args in
    let h = c.requires in
    omega (arith, c.rest_place-rest.ensures, within a.l a.room a.s h.0, h)

pub overflow_add-next : goal.overflow_add-next
overflow_add-next c =
    let a = c.args in
    let h = c.requires in
    omega (arith, c.rest_place-rest.ensures, within a.l a.room a.s h.0, h)

pub eight_at-len-requires : goal.eight_at-len-requires
eight_at-len-requires c =
    let a = c.args in
    let h = c.requires in
    omega (arith, c.rest_place-rest.ensures, within a.l a.room a.s h.0, h)

pub returns : goal.returns
returns c =
    let a = c.args in
    let f : Bytes a.b.now = λ i. (c.type_inv.b i).fits in
    let P : ℕ = start_place a.l a.s in
    let R : ℕ = rest_place a.l a.room a.s in
    let p = c.start_place-at.ensures in
    let r = c.rest_place-rest.ensures in
    let x : c.eight_at-start.result / 2 ^ 16 ≡ number_at a.b.now P 6 =
    ap (λ (k : ℕ). k / 2 ^ 16) (rw p at c.eight_at-start.ensures) ∙ six_of_eight a.b.now P f
    in
    let y : c.eight_at-both.result / 2 ^ 48 ≡ number_at a.b.now R 2 =
    ap (λ (k : ℕ). k / 2 ^ 48) (rw r at c.eight_at-both.ensures) ∙ two_of_eight a.b.now R f
    in
    let z : c.eight_at-len.result ≡ number_at a.b.now (R + 2) 8 = rw r at c.eight_at-len.ensures in
    (rw (x, y, z) refl, omega (arith, number-below a.b.now P 6 f, x), omega (arith, number-below a.b.now R 2 f, y))
