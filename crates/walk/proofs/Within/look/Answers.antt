-- `walk::Within::look` meets its contract: each return is one of the rules' cases.
use Rattle.std.specs.Prelude.{Ok}
use Prim.Native.Nat.{◌+◌}
use mathlib.Core.Path.{◌≡◌, sym, ◌∙◌}
use mathlib.Core.Bool.{true}
use native.Mathlib.Omega.{arith}
use Rattle.labels.specs.Label.{key_at}
use Rattle.lengths.specs.Length.{length_at}
use Rattle.lengths.proofs.Laws.{Taken, taken}
use Rattle.lengths.proofs.Errors.{cut-so, invalid-so}
use Rattle.walk.proofs.Laws.{rule_end, rule_no_key, rule_cut, rule_none, rule_record, rule_wait, rule_late}
use Rattle.walk.proofs.Within.look.Goals as goal
use Rattle.walk.proofs.Within.look.Goals.{Else-not-key_at, In-Ok}

-- after the test for a key there is one
is_key : (c : goal.Else-not-key_at) → key_at c.args.self.bytes.now c.args.p ≡ true
is_key c = sym c.key_at.ensures ∙ c.if-not-key_at.false

is-length : (c : goal.In-Ok) → length_at c.args.self.bytes.now (c.args.p + 16) ≡ Ok c.in-Ok.f
is-length c = sym c.read-l.ensures ∙ c.in-Ok.is

is-long : (c : goal.In-Ok) → Taken c.args.self.bytes.now (c.args.p + 16) c.in-Ok.f.size
is-long c = taken _ _ _ (is-length c)

pub returns-then-eq : goal.returns-then-eq
returns-then-eq c =
    sym (rule_cut _ _ _ _ (omega arith) (is_key (goal.at.returns-then-eq c).Else-not-key_at) (sym c.read-l.ensures ∙ cut-so _ (sym c.eq.ensures ∙ c.if-eq.true)))

pub returns-in_default : goal.returns-in_default
returns-in_default c =
    sym
    (rule_none _ _ _ _ (omega arith) (is_key (goal.at.returns-in_default c).Else-not-key_at)
    (sym c.read-l.ensures ∙ invalid-so _ _ c.in_default.is (sym c.eq.ensures ∙ c.if-eq.false)))

pub returns-then-self-lt17 : goal.returns-then-self-lt17
returns-then-self-lt17 c = sym (rule_end _ _ _ _ (omega arith))

pub returns-then-self-p : goal.returns-then-self-p
returns-then-self-p c = sym (rule_end _ _ _ _ (omega arith))

pub returns-then-not-key_at : goal.returns-then-not-key_at
returns-then-not-key_at c = sym (rule_no_key _ _ _ _ (omega arith) (sym c.key_at.ensures ∙ c.if-not-key_at.true))

pub overflow_add-v-2 : goal.overflow_add-v-2
overflow_add-v-2 c = omega (arith, (is-long (goal.at.overflow_add-v-2 c).In-Ok).there)

pub returns-then-n-saturating_sub : goal.returns-then-n-saturating_sub
returns-then-n-saturating_sub c =
    sym (rule_record _ _ _ _ (omega arith) (is_key (goal.at.returns-then-n-saturating_sub c).Else-not-key_at) _ (is-length (goal.at.returns-then-n-saturating_sub c).In-Ok) (omega arith))

pub returns-then-n-saturating_sub-2 : goal.returns-then-n-saturating_sub-2
returns-then-n-saturating_sub-2 c =
    sym (rule_wait _ _ _ _ (omega arith) (is_key (goal.at.returns-then-n-saturating_sub-2 c).Else-not-key_at) _ (is-length (goal.at.returns-then-n-saturating_sub-2 c).In-Ok) (omega arith) (omega arith))

pub returns : goal.returns
returns c =
    sym (rule_late _ _ _ _ (omega arith) (is_key (goal.at.returns c).Else-not-key_at) _ (is-length (goal.at.returns c).In-Ok) (omega arith) (omega arith))
