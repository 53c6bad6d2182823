-- `index::insert` meets its contract: each return is a case of the definition.
use mathlib.Core.Path.{refl, sym, ◌∙◌}
use mathlib.Core.List.{List}
use native.Mathlib.Omega.{arith}
use Rattle.index.specs.declared.Entry.{Entry}
use Rattle.index.specs.Places.{entries}
use Rattle.index.specs.Index.{written}
use Rattle.index.proofs.Laws.{good_tells, entries-length, add_field, add_start, add_order, add_full, add_done}
use Rattle.index.proofs.insert.Goals as goal

pub returns-then-not-good : goal.returns-then-not-good
unfolding written
returns-then-not-good c =
    let a = c.args in
    let es : List Entry = entries a.slots.layout a.slots.down a.slots.room a.b.now a.slots.used in
    (add_field a.free es a.e (sym c.good.ensures ∙ c.if-not-good.true), refl)

pub returns-then-e-gt281474976710655 : goal.returns-then-e-gt281474976710655
unfolding written
returns-then-e-gt281474976710655 c =
    let a = c.args in
    let es : List Entry = entries a.slots.layout a.slots.down a.slots.room a.b.now a.slots.used in
    (add_start a.free es a.e (sym c.good.ensures ∙ c.if-not-good.false) (omega arith), refl)

pub returns-then-early : goal.returns-then-early
unfolding written
returns-then-early c =
    let a = c.args in
    let es : List Entry = entries a.slots.layout a.slots.down a.slots.room a.b.now a.slots.used in
    (add_order a.free es a.e (sym c.good.ensures ∙ c.if-not-good.false) (omega (arith, c.if-e-gt281474976710655.false)) (sym c.early.ensures ∙ c.if-early.true), refl)

pub returns-then-not-free : goal.returns-then-not-free
unfolding written
returns-then-not-free c =
    let a = c.args in
    let es : List Entry = entries a.slots.layout a.slots.down a.slots.room a.b.now a.slots.used in
    (add_full a.free es a.e (sym c.good.ensures ∙ c.if-not-good.false) (omega (arith, c.if-e-gt281474976710655.false)) (sym c.early.ensures ∙ c.if-early.false) (c.if-not-free.true), refl)

pub slot-s-requires : goal.slot-s-requires
slot-s-requires c = c.requires.2 (c.if-not-free.false)

pub put_slot-requires : goal.put_slot-requires
put_slot-requires c =
    let a = c.args in
    let h = c.requires in
    let g = good_tells a.e (sym c.good.ensures ∙ c.if-not-good.false) in
    (c.slot-s.ensures.1, h.1, g.most, g.group)

pub returns : goal.returns
unfolding written
returns c =
    let a = c.args in
    let es : List Entry = entries a.slots.layout a.slots.down a.slots.room a.b.now a.slots.used in (
      add_done a.free es a.e (sym c.good.ensures ∙ c.if-not-good.false) (omega (arith, c.if-e-gt281474976710655.false)) (sym c.early.ensures ∙ c.if-early.false) a.slots.used (entries-length a.slots.layout a.slots.down a.slots.room a.b.now a.slots.used) (c.if-not-free.false),
      rw c.slot-s.ensures.0 at c.put_slot.ensures,
    )
