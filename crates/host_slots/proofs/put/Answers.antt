-- `host_slots::put` has put the kind and the bits of as many values as it took turns.
use Prim.Native.Nat.{ℕ, ◌<◌}
use mathlib.Core.Path.{◌≡◌, sym, ◌∙◌}
use mathlib.Core.List.{List, map}
use native.Mathlib.Omega.{arith}
use borrow.Author.Rules.{rules}
use lib.ListN.{length, length-map, get_or}
use Rattle.std.proofs.lemmas.List.{ext_get_or, get_or-map}
use Rattle.std.proofs.lemmas.List.Edits.{fill_by_more}
use Rattle.host_slots.specs.declared.Slot.{Slot}
use Rattle.host_slots.specs.Slots.{nothing}
use Rattle.host_slots.proofs.put.Goals as goal

-- an array that has at each place what f says of the value there holds that of all values
filled : (f : Slot → ℕ) (xs : List Slot) (l : List ℕ) → length l ≡ length xs → ((j : ℕ) → j < length l → get_or l j 0 ≡ f (get_or xs j nothing)) → l ≡ map f xs
filled f xs l e h = ext_get_or 0 l (map f xs) (e ∙ sym (length-map xs f)) (λ j b. h j b ∙ sym (get_or-map f xs j nothing 0 (omega (arith, e, b))))

pub loop-i-init : goal.loop-i-init
loop-i-init c = (c.told-kind, c.told-bits, λ j h. search rules)

pub loop-i-preserved : goal.loop-i-preserved
loop-i-preserved c =
    let l = c.loop-i in
    let s = c.args.slots.now in
    let k = fill_by_more (λ (j : ℕ). (get_or s j nothing).kind) l.kind l.i 0 (omega arith) (λ j h. (l.invariant.2 j h).0) in
    let b = fill_by_more (λ (j : ℕ). (get_or s j nothing).bits) l.bits l.i 0 (omega arith) (λ j h. (l.invariant.2 j h).1) in
    (search rules, search rules, λ j h. (k j h, b j h))

pub returns-clause-kind_after : goal.returns-clause-kind_after
returns-clause-kind_after c =
    let l = c.loop-i in
    filled (λ (s : Slot). s.kind) _ _ (omega (arith, c.told-slots)) (λ j h. (l.invariant.2 j (omega (arith, h))).0)

pub returns-clause-bits_after : goal.returns-clause-bits_after
returns-clause-bits_after c =
    let l = c.loop-i in
    filled (λ (s : Slot). s.bits) _ _ (omega (arith, c.told-slots)) (λ j h. (l.invariant.2 j (omega (arith, h))).1)
