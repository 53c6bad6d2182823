-- `host_fed_states::begun` meets its contract: a law for each return.
use Prim.Native.Nat.{◌+◌, ◌≤◌}
use mathlib.Core.Path.{◌≡◌, sym, ◌∙◌}
use mathlib.Core.Bool.{true, ◌&&◌}
use native.Mathlib.Omega.{arith}
use borrow.Author.Tests.{leb-true}
use lib.Dec.{leb}
use lib.ListN.{length}
use Rattle.parts.specs.Bytes.{Bytes}
use Rattle.labels.specs.Label.{key_at}
use Rattle.fed_states.proofs.Laws.{and_left, and_right}
use Rattle.host_fed_states.specs.Places.{state_of}
use Rattle.host_fed_states.proofs.Values.{Comes, begun_barred, begun_late, begun-none, begun-value}
use Rattle.host_fed_states.proofs.Pieces.{length-nine}
use Rattle.host_fed_states.proofs.begun.Goals as goal
use Rattle.host_fed_states.proofs.begun.Goals.{After-may, Else-not-may, Else-not-whole_key}

-- whether the piece may come
may-is : (c : goal.After-may) → c.may.result ≡ Comes (state_of c.args.s.now) (length c.args.piece.now)
may-is c = rw (c.flag-live.ensures, c.limit_of-limit.ensures) at c.may.ensures

comes : (c : goal.Else-not-may) → Comes (state_of c.args.s.now) (length c.args.piece.now) ≡ true
comes c = rw (c.flag-live.ensures, c.limit_of-limit.ensures) at (sym c.may.ensures ∙ c.if-not-may.false)

fits : (c : goal.Else-not-may) → (state_of c.args.s.now).at + (state_of c.args.s.now).have + length c.args.piece.now ≤ (state_of c.args.s.now).limit
fits c = leb-true _ _ (and_right (state_of c.args.s.now).live _ (comes c))

pub returns-then-not-may : goal.returns-then-not-may
returns-then-not-may c = begun_barred _ _ (sym (may-is (goal.at.returns-then-not-may c).After-may) ∙ c.if-not-may.true)

pub returns-then-have-ne0 : goal.returns-then-have-ne0
returns-then-have-ne0 c = begun_late _ _ (comes (goal.at.returns-then-have-ne0 c).Else-not-may) c.if-have-ne0.true

pub returns-then-not-whole_key : goal.returns-then-not-whole_key
returns-then-not-whole_key c = begun-none _ _ (comes (goal.at.returns-then-not-whole_key c).Else-not-may) (sym c.whole_key.ensures ∙ c.if-not-whole_key.true)

key : (c : goal.Else-not-whole_key) → leb 25 (length c.args.piece.now) && key_at c.args.piece.now 0 ≡ true
key c = sym c.whole_key.ensures ∙ c.if-not-whole_key.false

many : (c : goal.Else-not-whole_key) → 25 ≤ length c.args.piece.now
many c = leb-true _ _ (and_left (leb 25 (length c.args.piece.now)) _ (key c))

bytes : (c : goal.After-may) → Bytes c.args.piece.now
bytes c = λ j. (c.type_inv.piece j).fits

pub value_of-requires : goal.value_of-requires
value_of-requires c = omega (arith, many (goal.at.value_of-requires c).Else-not-whole_key, fits (goal.at.value_of-requires c).Else-not-may, c.limit_of-limit.ensures)

pub returns : goal.returns
returns c =
    let st = (state_of c.args.s.now) in
    let x = length-nine c.args.piece.now 16 (bytes (goal.at.returns c).After-may) (omega (arith, many (goal.at.returns c).Else-not-whole_key)) in
    c.value_of.ensures
    ∙ rw (c.limit_of-limit.ensures, c.from-lead.ensures, c.eight_at-eight.ensures, x) (begun-value st c.args.piece.now (comes (goal.at.returns c).Else-not-may) c.if-have-ne0.false (key (goal.at.returns c).Else-not-whole_key))

pub bounds-piece-16 : goal.bounds-piece-16
bounds-piece-16 c = omega (arith, many (goal.at.bounds-piece-16 c).Else-not-whole_key)

pub eight_at-eight-requires : goal.eight_at-eight-requires
eight_at-eight-requires c = omega (arith, many (goal.at.eight_at-eight-requires c).Else-not-whole_key)
