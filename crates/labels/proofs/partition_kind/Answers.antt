-- `labels::partition_kind` meets its contract: 14 bytes, then the prefix.
use mathlib.Core.Path.{sym, ◌∙◌}
use native.Mathlib.Omega.{arith}
use Rattle.labels.proofs.Partitions.{kind-cut, kind-other, kind-there}
use Rattle.labels.proofs.partition_kind.Goals as goal

pub returns-then-s-lt14 : goal.returns-then-s-lt14
returns-then-s-lt14 c = sym (kind-cut _ _ (omega arith))

pub returns-then-s-at : goal.returns-then-s-at
returns-then-s-at c = sym (kind-cut _ _ (omega arith))

pub returns-then-not-prefixed : goal.returns-then-not-prefixed
returns-then-not-prefixed c = sym (kind-other _ _ (omega arith) (sym c.prefixed.ensures ∙ c.if-not-prefixed.true))

pub returns : goal.returns
returns c = sym (kind-there _ _ (omega arith) (sym c.prefixed.ensures ∙ c.if-not-prefixed.false))
