-- `fed::reach` meets its contract: what is taken from the loop's place on is what the call takes.
use Prim.Native.Nat.{◌+◌, ◌-◌, ◌≤◌}
use mathlib.Core.Path.{◌≡◌, refl, sym, ◌∙◌}
use mathlib.Core.Bool.{true}
use native.Mathlib.Omega.{arith}
use lib.ListN.{length, drop}
use Rattle.fed_states.specs.State.{sound_of}
use Rattle.fed_states.proofs.Laws.{Sound, sound_tells}
use Rattle.fed.specs.Parts.{reaches, reach_of}
use Rattle.fed.proofs.Biting.{bitten_record, bitten_on}
use Rattle.fed.proofs.Starting.{reaches-none, reaches-start}
use Rattle.fed.proofs.Reaching.{reach_closed, reach_past, reach-in}
use Rattle.fed.proofs.reach.Goals as goal
use Rattle.fed.proofs.reach.Goals.{At-loop-i, Else-not-sound}

-- behind the first test the state is sound
is-sound : (c : goal.Else-not-sound) → sound_of c.args.st ≡ true
is-sound c = sym c.sound.ensures ∙ c.if-not-sound.false

is-so : (c : goal.Else-not-sound) → Sound c.args.st
is-so c = sound_tells _ (let h : sound_of c.args.st ≡ true = sym c.sound.ensures ∙ c.if-not-sound.false in h)

-- the piece may come
few : (w : goal.At-loop-i) → length (w.args.piece.now) ≤ w.args.st.limit - (w.args.st.at + w.args.st.have)
few w = omega (arith, w.if-st-piece.false)

-- what is taken from the loop's place on
taken : (w : goal.At-loop-i) → reaches w.loop-i.s (drop w.loop-i.i (w.args.piece.now)) w.loop-i.i ≡ reach_of w.args.st (w.args.piece.now)
taken w = w.loop-i.invariant.2 ∙ sym (reach-in _ _ (let h : sound_of w.args.st ≡ true = sym w.sound.ensures ∙ w.if-not-sound.false in h) (let h : length (w.args.piece.now) ≤ w.args.st.limit - (w.args.st.at + w.args.st.have) = omega (arith, w.if-st-piece.false) in h))

pub returns-then-not-sound : goal.returns-then-not-sound
returns-then-not-sound c = sym (reach_closed _ _ (sym c.sound.ensures ∙ c.if-not-sound.true))

pub overflow_add-st : goal.overflow_add-st
overflow_add-st c = omega (arith, is-so (goal.at.overflow_add-st c).Else-not-sound)

pub overflow_sub-st : goal.overflow_sub-st
overflow_sub-st c = omega (arith, is-so (goal.at.overflow_sub-st c).Else-not-sound)

pub returns-then-st-piece : goal.returns-then-st-piece
returns-then-st-piece c = sym (reach_past _ _ (is-sound (goal.at.returns-then-st-piece c).Else-not-sound) (omega (arith, c.if-st-piece.true)))

pub loop-i-init : goal.loop-i-init
loop-i-init c = let g = is-so (goal.at.loop-i-init c).Else-not-sound in (omega arith, record { same = refl; fits = omega (arith, g.within) }, refl)

pub next-f-requires : goal.next-f-requires
next-f-requires c = let g = c.loop-i.invariant.1 in record { i_in_bounds = omega (arith, c.loop-i-test.true); i_bound = omega (arith, g.fits, g.same); i_value = sym c.starts.ensures ∙ c.if-starts.false }

pub returns-then-is_some : goal.returns-then-is_some
returns-then-is_some c =
    bitten_record c.loop-i.s c.args.piece.now c.loop-i.i _ c.next-f.ensures (sym c.is_some.ensures ∙ c.if-is_some.true) ∙ taken (goal.at.returns-then-is_some c).At-loop-i

pub loop-i-smaller : goal.loop-i-smaller
loop-i-smaller c = let b = c.next-f.ensures in omega (arith, b.up, b.most)

pub loop-i-preserved : goal.loop-i-preserved
loop-i-preserved c =
    let b = c.next-f.ensures in
    let g = c.loop-i.invariant.1 in
    (b.most, record { same = b.same ∙ g.same; fits = omega (arith, b.fits, g.same) }, bitten_on c.loop-i.s c.args.piece.now c.loop-i.i _ b (sym c.is_some.ensures ∙ c.if-is_some.false) ∙ c.loop-i.invariant.2)

pub returns-then-starts : goal.returns-then-starts
returns-then-starts c = sym (reaches-start _ _ _ _ c.loop-i-test.true (sym c.starts.ensures ∙ c.if-starts.true)) ∙ taken (goal.at.returns-then-starts c).At-loop-i

pub returns-after-loop-i : goal.returns-after-loop-i
returns-after-loop-i c = sym (reaches-none c.loop-i.s c.args.piece.now c.loop-i.i c.loop-i.i (omega (arith, c.loop-i-test.false))) ∙ taken (goal.at.returns-after-loop-i c).At-loop-i

pub bounds-piece-i : goal.bounds-piece-i
bounds-piece-i c = omega (arith, c.loop-i-test.true)
