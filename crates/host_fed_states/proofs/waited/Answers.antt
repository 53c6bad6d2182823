-- `host_fed_states::waited` meets its contract: a law for each return.
use Prim.Native.Nat.{◌+◌, ◌≤◌}
use mathlib.Core.Path.{◌≡◌, sym, ◌∙◌}
use mathlib.Core.Bool.{true}
use native.Mathlib.Omega.{arith}
use borrow.Author.Tests.{leb-true}
use Rattle.fed_states.proofs.Laws.{and_right}
use Rattle.host_fed_states.specs.Places.{state_of}
use Rattle.host_fed_states.proofs.Laws.{ber-length}
use Rattle.host_fed_states.proofs.Values.{Comes, whole_length, waited_barred, waited_few, waited_value}
use Rattle.host_fed_states.proofs.waited.Goals as goal
use Rattle.host_fed_states.proofs.waited.Goals.{After-may, Else-have-lt25, Else-not-may}

-- whether bytes may come
may-is : (c : goal.After-may) → c.may.result ≡ Comes (state_of c.args.s.now) c.args.n
may-is c = rw (c.flag-live.ensures, c.limit_of-limit.ensures) at c.may.ensures

comes : (c : goal.Else-not-may) → Comes (state_of c.args.s.now) c.args.n ≡ true
comes c = rw (c.flag-live.ensures, c.limit_of-limit.ensures) at (sym c.may.ensures ∙ c.if-not-may.false)

fits : (c : goal.Else-not-may) → (state_of c.args.s.now).at + (state_of c.args.s.now).have + c.args.n ≤ (state_of c.args.s.now).limit
fits c = leb-true _ _ (and_right (state_of c.args.s.now).live _ (comes c))

pub returns-then-not-may : goal.returns-then-not-may
returns-then-not-may c = waited_barred _ _ (sym (may-is (goal.at.returns-then-not-may c).After-may) ∙ c.if-not-may.true)

pub returns-then-have-lt25 : goal.returns-then-have-lt25
returns-then-have-lt25 c = waited_few _ _ (comes (goal.at.returns-then-have-lt25 c).Else-not-may) c.if-have-lt25.true

kept : (c : goal.Else-have-lt25) → 25 ≤ (state_of c.args.s.now).have
kept c = omega (arith, c.if-have-lt25.false)

pub value_of-requires : goal.value_of-requires
value_of-requires c = omega (arith, kept (goal.at.value_of-requires c).Else-have-lt25, fits (goal.at.value_of-requires c).Else-not-may, c.limit_of-limit.ensures)

pub returns : goal.returns
returns c =
    let st = (state_of c.args.s.now) in
    c.value_of.ensures
    ∙ rw (c.limit_of-limit.ensures, sym (whole_length st (kept (goal.at.returns c).Else-have-lt25) (ber-length _ _))) (waited_value st _ (comes (goal.at.returns c).Else-not-may) (kept (goal.at.returns c).Else-have-lt25))
