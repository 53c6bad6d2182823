-- `frame_walks::sony_kind` meets its contract: all 16 bytes are compared.
use Rattle.std.proofs.Common.{sym, ◌∙◌}
use Rattle.frame_walks.specs.Kinds.{sony_kind}
use Rattle.frame_walks.proofs.sony_kind.Goals as goal

pub returns-then-agree_but : goal.returns-then-agree_but
unfolding sony_kind
returns-then-agree_but c = rw (sym c.agree_but.ensures ∙ c.if-agree_but.true)

pub returns : goal.returns
unfolding sony_kind
returns c = rw (sym c.agree_but.ensures ∙ c.if-agree_but.false)
