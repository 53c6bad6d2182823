-- `random_index::find` meets its contract: each return is one case of the definition.
use mathlib.Core.Path.{◌≡◌, sym, ◌∙◌}
use native.Mathlib.Omega.{arith}
use Rattle.parts.proofs.Parts.{number-there}
use Rattle.random_index.specs.Index.{pack_size}
use Rattle.random_index.proofs.Laws.{file_small, size_small, size_above, no-label, behind-label}
use Rattle.random_index.proofs.find.Goals as goal
use Rattle.random_index.proofs.find.Goals.{After-number_at-size}

size_of : (c : goal.After-number_at-size) → c.number_at-size.result ≡ pack_size c.args.s.now
unfolding pack_size
size_of c =
    c.number_at-size.ensures ∙ number-there _ _ 4 (λ i. (c.type_inv.s i).fits) (omega arith) (omega arith)

pub returns-then-s-lt21 : goal.returns-then-s-lt21
returns-then-s-lt21 c = sym (file_small _ (omega arith))

pub returns-then-size-lt21 : goal.returns-then-size-lt21
returns-then-size-lt21 c = sym (size_small _ (omega arith) _ (size_of (goal.at.returns-then-size-lt21 c).After-number_at-size) (omega arith))

pub returns-then-s-size : goal.returns-then-s-size
returns-then-s-size c = sym (size_above _ (omega arith) _ (size_of (goal.at.returns-then-s-size c).After-number_at-size) (omega arith) (omega arith))

pub returns-then-not-same_label : goal.returns-then-not-same_label
returns-then-not-same_label c =
    sym
    (no-label _ (omega arith) _ (size_of (goal.at.returns-then-not-same_label c).After-number_at-size) (omega arith) (omega arith)
    (rw c.label.ensures at (sym c.same_label.ensures ∙ c.if-not-same_label.true)))

pub pairs_behind-requires : goal.pairs_behind-requires
pairs_behind-requires c = omega arith

pub returns : goal.returns
returns c =
    c.pairs_behind.ensures
    ∙ sym
    (behind-label _ (omega arith) _ (size_of (goal.at.returns c).After-number_at-size) (omega arith) (omega arith)
    (rw c.label.ensures at (sym c.same_label.ensures ∙ c.if-not-same_label.false)))
