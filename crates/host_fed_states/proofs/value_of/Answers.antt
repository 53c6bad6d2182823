-- `host_fed_states::value_of` meets its contract: a law for each return.
use Rattle.std.specs.Prelude.{Ok, Result, Option}
use Prim.Native.Nat.{ℕ, ◌+◌, ◌≤◌, ◌<◌, ◌^◌}
use mathlib.Core.Path.{◌≡◌, sym, ap, ◌∙◌}
use mathlib.Core.List.{◌++◌}
use native.Mathlib.Omega.{arith}
use Rattle.lengths.specs.declared.Field.{Field}
use Rattle.lengths.specs.declared.NoLength.{NoLength}
use Rattle.lengths.specs.Length.{length_at}
use Rattle.lengths.proofs.Laws.{Taken, taken}
use Rattle.host_fed_states.specs.declared.Value.{Value}
use Rattle.host_fed_states.specs.Places.{bytes_of}
use Rattle.host_fed_states.specs.Waited.{value_of}
use Rattle.host_fed_states.proofs.Values.{value_none, value_late, value-past, value-is}
use borrow.Author.Rules.{rules}
use Rattle.host_fed_states.proofs.value_of.Goals as goal
use Rattle.host_fed_states.proofs.value_of.Goals.{Else-limit-value, In-Ok, Start}

is-so : (c : goal.In-Ok) → length_at (bytes_of 1 c.args.lead ++ bytes_of 8 c.args.eight) 0 ≡ Ok c.in-Ok.f
is-so c = sym c.length_of-l.ensures ∙ c.in-Ok.is

is-taken : (c : goal.In-Ok) → Taken (bytes_of 1 c.args.lead ++ bytes_of 8 c.args.eight) 0 c.in-Ok.f.size
is-taken c = taken _ 0 _ (is-so c)

-- a length's field is within what is kept of a key
field_fits : (limit at lead eight : ℕ) (f : Field) → at + 25 ≤ limit → length_at (bytes_of 1 lead ++ bytes_of 8 eight) 0 ≡ Ok f → at + 16 + f.size ≤ limit
field_fits limit at lead eight f h e = omega (arith, h, (taken _ 0 _ e).most)

starts : (c : goal.In-Ok) → c.args.at + 16 + c.in-Ok.f.size ≤ c.args.limit
starts c = field_fits _ _ _ _ _ c.requires (is-so c)

limit-fits : (c : goal.Start) → c.args.limit < 2 ^ 64
limit-fits c = search rules

-- what the rules say of it
says : (c : goal.In-Ok) (v : Option Value) → v ≡ value_of c.args.limit c.args.at c.args.have (Ok c.in-Ok.f)
    → v ≡ value_of c.args.limit c.args.at c.args.have (length_at (bytes_of 1 c.args.lead ++ bytes_of 8 c.args.eight) 0)
says c v e = e ∙ ap (λ (l : Result Field NoLength). value_of c.args.limit c.args.at c.args.have l) (sym (is-so c))

pub returns-in_default : goal.returns-in_default
returns-in_default c =
    let a = c.args in
    value_none a.limit a.at a.have c.in_default.field-0 ∙ ap (λ (l : Result Field NoLength). value_of a.limit a.at a.have l) (sym c.in_default.is ∙ c.length_of-l.ensures)

pub overflow_add-behind : goal.overflow_add-behind
overflow_add-behind c = omega (arith, (is-taken (goal.at.overflow_add-behind c).In-Ok).most)

pub overflow_add-value : goal.overflow_add-value
overflow_add-value c = omega (arith, starts (goal.at.overflow_add-value c).In-Ok, limit-fits (goal.at.overflow_add-value c).Start)

pub overflow_sub-limit : goal.overflow_sub-limit
overflow_sub-limit c = omega (arith, starts (goal.at.overflow_sub-limit c).In-Ok)

within : (c : goal.Else-limit-value) → c.args.at + 16 + c.in-Ok.f.size + c.in-Ok.f.value ≤ c.args.limit
within c = omega (arith, c.if-limit-value.false, field_fits _ _ _ _ _ c.requires (sym c.length_of-l.ensures ∙ c.in-Ok.is))

pub returns-then-limit-value : goal.returns-then-limit-value
returns-then-limit-value c =
    says (goal.at.returns-then-limit-value c).In-Ok _ (value_late _ _ _ _ (omega (arith, c.if-limit-value.true, starts (goal.at.returns-then-limit-value c).In-Ok)))

pub overflow_add-due : goal.overflow_add-due
overflow_add-due c = omega (arith, within (goal.at.overflow_add-due c).Else-limit-value, limit-fits (goal.at.overflow_add-due c).Start)

pub returns-then-due-have : goal.returns-then-due-have
returns-then-due-have c = says (goal.at.returns-then-due-have c).In-Ok _ (value-past _ _ _ _ (omega (arith, c.if-due-have.true)))

pub overflow_add-next : goal.overflow_add-next
overflow_add-next c = omega (arith, within (goal.at.overflow_add-next c).Else-limit-value, limit-fits (goal.at.overflow_add-next c).Start)

pub returns : goal.returns
returns c =
    let at = c.args.at in
    let size = c.in-Ok.f.size in
    let len = c.in-Ok.f.value in
    let y : at + (16 + size) + len ≡ at + (16 + size + len) = omega arith in
    let z : at + (16 + size) ≡ at + 16 + size = omega arith in
    says (goal.at.returns c).In-Ok _ (rw (y, z) (value-is _ _ _ _ (within (goal.at.returns c).Else-limit-value) (omega (arith, c.if-due-have.false))))
