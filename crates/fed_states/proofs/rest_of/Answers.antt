-- `fed_states::rest_of` meets its contract: the length that has come is one, or there is none.
use Rattle.std.proofs.Common.{sym, ap, ◌∙◌}
use native.Mathlib.Omega.{arith}
use Rattle.fed_states.specs.Close.{ends_by}
use Rattle.fed_states.proofs.Laws.{come, ends_is, ends_clean}
use Rattle.fed_states.proofs.rest_of.Goals as goal

pub returns-in_default : goal.returns-in_default
returns-in_default c = sym (ap (ends_by _) (sym c.length_of.ensures ∙ c.in_default.is) ∙ ends_clean _ _)

pub overflow_add-behind : goal.overflow_add-behind
overflow_add-behind c = omega (arith, come c.args.st c.in-Ok.f (sym c.length_of.ensures ∙ c.in-Ok.is))

pub overflow_add-result : goal.overflow_add-result
overflow_add-result c = omega (arith, come c.args.st c.in-Ok.f (sym c.length_of.ensures ∙ c.in-Ok.is))

pub overflow_sub-result : goal.overflow_sub-result
overflow_sub-result c = omega (arith, come c.args.st c.in-Ok.f (sym c.length_of.ensures ∙ c.in-Ok.is))

pub returns : goal.returns
returns c = sym (ap (ends_by _) (sym c.length_of.ensures ∙ c.in-Ok.is) ∙ ends_is _ _)
