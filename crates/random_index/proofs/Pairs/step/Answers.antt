-- `random_index::Pairs::step` meets its contract: it is the pair at the cursor, with one pair less to come.
use Prim.Native.Nat.{◌+◌}
use mathlib.Core.Path.{◌≡◌, sym, ◌∙◌}
use native.Mathlib.Omega.{arith}
use Rattle.parts.specs.Number.{number_at, four_at}
use Rattle.parts.proofs.Parts.{number_part, number-there}
use Rattle.random_index.proofs.Laws.{step-over, step_cut, step_read}
use Rattle.random_index.proofs.Pairs.step.Goals as goal
use Rattle.random_index.proofs.Pairs.step.Goals.{After-number_at-offset}

stream-of : (c : goal.After-number_at-offset) → c.four_at-stream.result ≡ number_at c.args.s.now c.args.self.at 4
unfolding four_at
stream-of c = let a = c.args in c.four_at-stream.ensures ∙ number_part a.s.now a.self.at 4 (omega arith)

offset-of : (c : goal.After-number_at-offset) → c.number_at-offset.result ≡ number_at c.args.s.now (c.args.self.at + 4) 8
offset-of c =
    c.number_at-offset.ensures ∙ number-there _ _ 8 (λ i. (c.type_inv.s i).fits) (omega arith) (omega arith)

pub returns-then-self-eq0 : goal.returns-then-self-eq0
returns-then-self-eq0 c = sym (step-over _ _ _ c.if-self-eq0.true)

pub returns-then-s-lt12 : goal.returns-then-s-lt12
returns-then-s-lt12 c = sym (step_cut _ _ _ (omega arith))

pub returns-then-s-at : goal.returns-then-s-at
returns-then-s-at c = sym (step_cut _ _ _ (omega arith))

pub returns : goal.returns
returns c =
    sym (step_read _ _ _ _ _ _ (omega arith) (omega arith) (stream-of (goal.at.returns c).After-number_at-offset) (offset-of (goal.at.returns c).After-number_at-offset) c.is_partition-partition.ensures)
