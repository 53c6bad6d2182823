-- `host_fed_states::put_rest` meets its contract: a law for each way.
use Prim.Native.Nat.{◌+◌, ◌-◌, ◌≤◌, ◌<◌, ◌^◌}
use mathlib.Core.Path.{◌≡◌, refl, sym, ap, ◌∙◌}
use mathlib.Core.Bool.{true, ◌&&◌}
use native.Mathlib.Omega.{arith}
use borrow.Author.Tests.{leb-true}
use lib.Dec.{leb}
use lib.ListN.{length}
use Rattle.labels.specs.Label.{key_at}
use Rattle.fed_states.specs.declared.State.{State}
use Rattle.fed_states.proofs.Laws.{and_left, and_right}
use Rattle.host_fed_states.specs.Places.{state_of, places_in}
use Rattle.host_fed_states.proofs.Kept.{rest_barred, wait_most, rest_end, rest-short, rest-key}
use borrow.Author.Rules.{rules}
use Rattle.host_fed_states.proofs.put_rest.Goals as goal
use Rattle.host_fed_states.proofs.put_rest.Goals.{After-limit_of-limit, After-wait_from-q, Else-not-among, Then-whole_key}

there : (c : goal.Else-not-among) → ((leb (c.args.at + length c.args.b.now) (state_of c.args.s.now).limit && leb c.args.w (length c.args.b.now)) ≡ true)
there c = sym (rw c.limit_of-limit.ensures at c.among.ensures) ∙ c.if-not-among.false

inside_of : (c : goal.Else-not-among) → c.args.w ≤ length c.args.b.now
inside_of c = let a = c.args in leb-true _ _ (and_right (leb (a.at + length a.b.now) (state_of a.s.now).limit) _ (let h : ((leb (c.args.at + length c.args.b.now) (state_of c.args.s.now).limit && leb c.args.w (length c.args.b.now)) ≡ true) = sym (rw c.limit_of-limit.ensures at c.among.ensures) ∙ c.if-not-among.false in h))

come-of : (c : goal.Else-not-among) → c.args.at + length c.args.b.now ≤ (state_of c.args.s.now).limit
come-of c = let a = c.args in leb-true _ _ (and_left (leb (a.at + length a.b.now) (state_of a.s.now).limit) _ (let h : ((leb (c.args.at + length c.args.b.now) (state_of c.args.s.now).limit && leb c.args.w (length c.args.b.now)) ≡ true) = sym (rw c.limit_of-limit.ensures at c.among.ensures) ∙ c.if-not-among.false in h))

limit-fits : (c : goal.After-limit_of-limit) → c.limit_of-limit.result < 2 ^ 64
limit-fits c = search rules

all-fits : (c : goal.Else-not-among) → c.args.at + length c.args.b.now < 2 ^ 64
all-fits c = let a = c.args in omega (arith, (let h : c.args.at + length c.args.b.now ≤ (state_of c.args.s.now).limit = let a = c.args in leb-true _ _ (and_left (leb (a.at + length a.b.now) (state_of a.s.now).limit) _ (let h : ((leb (c.args.at + length c.args.b.now) (state_of c.args.s.now).limit && leb c.args.w (length c.args.b.now)) ≡ true) = sym (rw c.limit_of-limit.ensures at c.among.ensures) ∙ c.if-not-among.false in h)) in h), (let h : c.limit_of-limit.result < 2 ^ 64 = search rules in h), c.limit_of-limit.ensures)

place-fits : (c : goal.Else-not-among) → c.args.at + c.args.w < 2 ^ 64
place-fits c = omega (arith, (let h : c.args.w ≤ length c.args.b.now = let a = c.args in leb-true _ _ (and_right (leb (a.at + length a.b.now) (state_of a.s.now).limit) _ (let h : ((leb (c.args.at + length c.args.b.now) (state_of c.args.s.now).limit && leb c.args.w (length c.args.b.now)) ≡ true) = sym (rw c.limit_of-limit.ensures at c.among.ensures) ∙ c.if-not-among.false in h)) in h), (let h : c.args.at + length c.args.b.now < 2 ^ 64 = let a = c.args in omega (arith, (let h : c.args.at + length c.args.b.now ≤ (state_of c.args.s.now).limit = let a = c.args in leb-true _ _ (and_left (leb (a.at + length a.b.now) (state_of a.s.now).limit) _ (let h : ((leb (c.args.at + length c.args.b.now) (state_of c.args.s.now).limit && leb c.args.w (length c.args.b.now)) ≡ true) = sym (rw c.limit_of-limit.ensures at c.among.ensures) ∙ c.if-not-among.false in h)) in h), (let h : c.limit_of-limit.result < 2 ^ 64 = search rules in h), c.limit_of-limit.ensures) in h))

-- a key, and enough bytes behind it
is_key : (c : goal.Then-whole_key) → (leb 25 (length c.args.b.now - c.args.w) && key_at c.args.b.now c.args.w) ≡ true
is_key c = sym c.whole_key.ensures ∙ c.if-whole_key.true

many : (c : goal.Then-whole_key) → c.args.w + 25 ≤ length c.args.b.now
many c = let a = c.args in omega (arith, leb-true 25 (length a.b.now - a.w) (and_left _ (key_at a.b.now a.w) (let h : (leb 25 (length c.args.b.now - c.args.w) && key_at c.args.b.now c.args.w) ≡ true = sym c.whole_key.ensures ∙ c.if-whole_key.true in h)))

key : (c : goal.Then-whole_key) → key_at c.args.b.now c.args.w ≡ true
key c = let a = c.args in and_right (leb 25 (length a.b.now - a.w)) _ (let h : (leb 25 (length c.args.b.now - c.args.w) && key_at c.args.b.now c.args.w) ≡ true = sym c.whole_key.ensures ∙ c.if-whole_key.true in h)

most : (c : goal.After-wait_from-q) → c.wait_from-q.result ≤ length c.args.b.now
most c = let a = c.args in wait_most (state_of a.s.now) a.at a.since a.b.now a.w (let h : c.args.at + length c.args.b.now ≤ (state_of c.args.s.now).limit = let a = c.args in leb-true _ _ (and_left (leb (a.at + length a.b.now) (state_of a.s.now).limit) _ (let h : ((leb (c.args.at + length c.args.b.now) (state_of c.args.s.now).limit && leb c.args.w (length c.args.b.now)) ≡ true) = sym (rw c.limit_of-limit.ensures at c.among.ensures) ∙ c.if-not-among.false in h)) in h) (let h : c.args.w ≤ length c.args.b.now = let a = c.args in leb-true _ _ (and_right (leb (a.at + length a.b.now) (state_of a.s.now).limit) _ (let h : ((leb (c.args.at + length c.args.b.now) (state_of c.args.s.now).limit && leb c.args.w (length c.args.b.now)) ≡ true) = sym (rw c.limit_of-limit.ensures at c.among.ensures) ∙ c.if-not-among.false in h)) in h) _ c.wait_from-q.ensures

pub returns-then-not-among : goal.returns-then-not-among
returns-then-not-among c =
    c.put_sought.ensures
    ∙ ap (λ (t : State). places_in c.args.s.now t) (rest_barred (state_of c.args.s.now) _ _ _ _ (sym (rw c.limit_of-limit.ensures at c.among.ensures) ∙ c.if-not-among.true))

pub returns-then-whole_key : goal.returns-then-whole_key
returns-then-whole_key c = c.put_key.ensures ∙ rest-key (state_of c.args.s.now) _ _ _ _ (come-of (goal.at.returns-then-whole_key c).Else-not-among) (inside_of (goal.at.returns-then-whole_key c).Else-not-among) (many (goal.at.returns-then-whole_key c).Then-whole_key) (key (goal.at.returns-then-whole_key c).Then-whole_key) c.args.s.now

pub returns-then-left-eq0 : goal.returns-then-left-eq0
returns-then-left-eq0 c = c.put_sought-then-left-eq0.ensures ∙ ap (λ (t : State). places_in c.args.s.now t) (rest_end (state_of c.args.s.now) _ _ _ _ (come-of (goal.at.returns-then-left-eq0 c).Else-not-among) (inside_of (goal.at.returns-then-left-eq0 c).Else-not-among) c.if-left-eq0.true)

pub returns-then-left-lt4 : goal.returns-then-left-lt4
returns-then-left-lt4 c =
    c.put_sought-then-left-lt4.ensures ∙ ap (λ (t : State). places_in c.args.s.now t) (rest-short (state_of c.args.s.now) _ _ _ _ (come-of (goal.at.returns-then-left-lt4 c).Else-not-among) (inside_of (goal.at.returns-then-left-lt4 c).Else-not-among) _ c.wait_from-q.ensures c.if-left-lt4.true)

pub returns : goal.returns
returns c = rw (c.put_in.ensures, c.rest-st.ensures, c.seeking.ensures) refl

pub put_key-requires : goal.put_key-requires
put_key-requires c = record { w_in_bounds = many (goal.at.put_key-requires c).Then-whole_key; w_bound = place-fits (goal.at.put_key-requires c).Else-not-among }

pub overflow_add-at : goal.overflow_add-at
overflow_add-at c = omega (arith, place-fits (goal.at.overflow_add-at c).Else-not-among)

pub overflow_sub-have : goal.overflow_sub-have
overflow_sub-have c = omega (arith, most (goal.at.overflow_sub-have c).After-wait_from-q)

pub overflow_add-at-then-left-lt4 : goal.overflow_add-at-then-left-lt4
overflow_add-at-then-left-lt4 c = omega (arith, most (goal.at.overflow_add-at-then-left-lt4 c).After-wait_from-q, all-fits (goal.at.overflow_add-at-then-left-lt4 c).Else-not-among)
