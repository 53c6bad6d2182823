-- `arri_alexa35_items::number_in` meets its contract: the branches are the definition's.
use mathlib.Core.Path.{◌≡◌, ◌∙◌, ap, sym}
use lib.ListN.{take, drop}
use Rattle.labels.specs.Label.{beginning, key_start}
use Rattle.arri_alexa35_items.specs.Kinds.{number_in, arri_items}
use Rattle.arri_alexa35_items.proofs.number_in.Goals as goal
use Rattle.arri_alexa35_items.proofs.number_in.Goals.{After-begins, After-begins-then-begins}

is_key : (c : goal.After-begins) → c.begins.result ≡ beginning key_start c.args.key.now
is_key c = c.begins.ensures

is-item : (c : goal.After-begins-then-begins) → c.begins-then-begins.result ≡ beginning arri_items (take 4 (drop 8 c.args.key.now))
is-item c = c.begins-then-begins.ensures ∙ ap (beginning arri_items) c.part.ensures

pub returns-then-begins-2 : goal.returns-then-begins-2
unfolding number_in
returns-then-begins-2 c =
    simp (sym (is_key (goal.at.returns-then-begins-2 c).After-begins) ∙ c.if-begins.true, sym (is-item (goal.at.returns-then-begins-2 c).After-begins-then-begins) ∙ c.if-begins-2.true, c.two_at.ensures)

pub returns-else-begins-2 : goal.returns-else-begins-2
unfolding number_in
returns-else-begins-2 c =
    simp (sym (is_key (goal.at.returns-else-begins-2 c).After-begins) ∙ c.if-begins.true, sym (is-item (goal.at.returns-else-begins-2 c).After-begins-then-begins) ∙ c.if-begins-2.false)

pub returns-else-begins : goal.returns-else-begins
unfolding number_in
returns-else-begins c = simp (sym (is_key (goal.at.returns-else-begins c).After-begins) ∙ c.if-begins.false)
