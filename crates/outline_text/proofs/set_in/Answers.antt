-- `outline_text::set_in` meets its contract: each return is one case of the definition.
use mathlib.Core.Path.{sym, ◌∙◌}
use Rattle.outline_text.proofs.Opening.{set_flat, set_other, set_long, set_53, set_13, set_43}
use Rattle.outline_text.proofs.set_in.Goals as goal

pub returns-then-left-eq0 : goal.returns-then-left-eq0
returns-then-left-eq0 c = set_flat _ _ c.if-left-eq0.true

pub returns-then-not-codes_items : goal.returns-then-not-codes_items
returns-then-not-codes_items c = set_other _ _ c.if-left-eq0.false (sym c.codes_items.ensures ∙ c.if-not-codes_items.true)

pub bounds-label-5 : goal.bounds-label-5
bounds-label-5 c =
    set_long _ _ c.if-left-eq0.false (sym c.codes_items.ensures ∙ c.if-not-codes_items.false)

pub returns-then-how-eq83 : goal.returns-then-how-eq83
returns-then-how-eq83 c =
    set_53 _ _ c.if-left-eq0.false (sym c.codes_items.ensures ∙ c.if-not-codes_items.false) c.if-how-eq83.true

pub returns-then-how-eq19 : goal.returns-then-how-eq19
returns-then-how-eq19 c =
    set_13 _ _ c.if-left-eq0.false (sym c.codes_items.ensures ∙ c.if-not-codes_items.false) c.if-how-eq19.true

pub returns : goal.returns
returns c =
    set_43 _ _ c.if-left-eq0.false (sym c.codes_items.ensures ∙ c.if-not-codes_items.false) c.if-how-eq83.false c.if-how-eq19.false
