-- `frame_walks::canon_kind` meets its contract: one label, or the other, or Sony's.
use Rattle.std.proofs.Common.{sym, ◌∙◌, arith}
use Rattle.frame_walks.proofs.Laws.{canon_long, canon_package, canon_sequence, canon_other}
use Rattle.frame_walks.proofs.canon_kind.Goals as goal

pub returns-then-len-gt-LONGEST_GIVEN : goal.returns-then-len-gt-LONGEST_GIVEN
returns-then-len-gt-LONGEST_GIVEN c = c.sony_kind.ensures ∙ sym (canon_long _ _ (omega arith))

pub returns-then-same_label : goal.returns-then-same_label
returns-then-same_label c = sym (canon_package _ _ (omega arith) (sym c.same_label.ensures ∙ c.if-same_label.true))

pub returns-then-same_label-2 : goal.returns-then-same_label-2
returns-then-same_label-2 c =
    sym (canon_sequence _ _ (omega arith) (sym c.same_label.ensures ∙ c.if-same_label.false) (sym c.same_label-2.ensures ∙ c.if-same_label-2.true))

pub returns : goal.returns
returns c =
    c.sony_kind-2.ensures
    ∙ sym (canon_other _ _ (omega arith) (sym c.same_label.ensures ∙ c.if-same_label.false) (sym c.same_label-2.ensures ∙ c.if-same_label-2.false))
