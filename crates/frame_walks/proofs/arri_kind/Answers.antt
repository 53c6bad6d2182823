-- `frame_walks::arri_kind` meets its contract: one label, or the other.
use Rattle.std.proofs.Common.{sym, ◌∙◌}
use Rattle.frame_walks.specs.Kinds.{arri_kind}
use Rattle.frame_walks.proofs.arri_kind.Goals as goal

pub returns-then-same_label : goal.returns-then-same_label
unfolding arri_kind
returns-then-same_label c = rw (sym c.same_label.ensures ∙ c.if-same_label.true)

pub returns-then-agree_but : goal.returns-then-agree_but
unfolding arri_kind
returns-then-agree_but c =
    rw (sym c.same_label.ensures ∙ c.if-same_label.false, sym c.agree_but.ensures ∙ c.if-agree_but.true)

pub returns : goal.returns
unfolding arri_kind
returns c =
    rw (sym c.same_label.ensures ∙ c.if-same_label.false, sym c.agree_but.ensures ∙ c.if-agree_but.false)
