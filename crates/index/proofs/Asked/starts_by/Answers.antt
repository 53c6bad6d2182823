-- `index::Asked::starts_by` meets its contract: a bool as a number.
use mathlib.Core.Path.{◌≡◌, refl, ◌∙◌}
use mathlib.Core.Bool.{Bool, true, false}
use mir.Val.{bool_byte}
use Rattle.index.specs.Lists.{one}
use Rattle.index.proofs.Laws.{starts_nth}
use Rattle.index.proofs.Narrowing.{one-most}
use Rattle.index.proofs.Asked.starts_by.Goals as goal

as_one : (v : Bool) → bool_byte v ≡ one v
unfolding one
as_one true = refl
as_one false = refl

pub returns : goal.returns
returns c =
    let r = c.args.self.records in
    let e = rw (c.start_place-at.ensures, c.slot.ensures.0) at c.starts_at_or_before.ensures ∙ starts_nth r.slots.layout r.slots.down r.slots.room r.bytes.now r.slots.used c.args.self.pos c.args.k c.requires in
    rw (c.from.ensures, as_one c.starts_at_or_before.result, e) (refl, one-most _)
