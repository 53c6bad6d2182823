-- `random_index::pairs_behind` meets its contract: each return is one case of the definition.
use Rattle.std.specs.Prelude.{Ok}
use Prim.Native.Nat.{◌+◌}
use mathlib.Core.Path.{◌≡◌, sym, ◌∙◌}
use native.Mathlib.Omega.{arith}
use Rattle.lengths.specs.Length.{length_at}
use Rattle.lengths.proofs.Laws.{taken}
use Rattle.random_index.proofs.Laws.{no_length, not-pairs, not_to_end, to_end}
use Rattle.random_index.proofs.pairs_behind.Goals as goal
use Rattle.random_index.proofs.pairs_behind.Goals.{In-Ok}

is-length : (c : goal.In-Ok) → length_at c.args.s.now (c.args.p + 16) ≡ Ok c.in-Ok.f
is-length c = sym c.read.ensures ∙ c.in-Ok.is

pub returns-in_default : goal.returns-in_default
returns-in_default c = sym (no_length _ _ c.in_default.field-0 (sym c.read.ensures ∙ c.in_default.is))

pub overflow_add-v : goal.overflow_add-v
overflow_add-v c = omega (arith, taken _ _ _ (is-length (goal.at.overflow_add-v c).In-Ok))

pub returns-then-n-ne4 : goal.returns-then-n-ne4
returns-then-n-ne4 c = sym (not-pairs _ _ _ (is-length (goal.at.returns-then-n-ne4 c).In-Ok) (λ x. omega arith))

pub overflow_sub-s : goal.overflow_sub-s
overflow_sub-s c = omega (arith, taken _ _ _ (is-length (goal.at.overflow_sub-s c).In-Ok))

pub returns-then-n-s : goal.returns-then-n-s
returns-then-n-s c =
    sym (not_to_end _ _ _ (is-length (goal.at.returns-then-n-s c).In-Ok) (omega arith) (λ x. omega (arith, taken _ _ _ (is-length (goal.at.returns-then-n-s c).In-Ok))))

pub returns : goal.returns
returns c =
    sym (to_end _ _ _ (is-length (goal.at.returns c).In-Ok) (omega arith) (omega (arith, taken _ _ _ (is-length (goal.at.returns c).In-Ok))))
