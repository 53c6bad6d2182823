-- `host_fed_records::walk` meets its contract. The loop's invariant: what was put, and what is left from the cursor on, is the whole.
use Prim.Native.Nat.{ℕ, ◌+◌, ◌-◌, ◌≤◌, ◌<◌, ◌^◌}
use mathlib.Core.Path.{◌≡◌, refl, sym, ap, ◌∙◌}
use mathlib.Core.List.{List, []}
use mathlib.Core.Bool.{false≢true}
use native.Mathlib.Omega.{arith}
use borrow.Author.Tests.{ltb-true, lt-ltb}
use lib.Dec.{ltb}
use lib.ListN.{length}
use lib.Seq.{length-sets}
use Rattle.steps.specs.Next.{cursor}
use Rattle.std.specs.Prelude.{Result, Ok}
use Rattle.walk.specs.declared.Step.{Step}
use Rattle.walk.specs.declared.WalkError.{WalkError}
use Rattle.walk.specs.Passed.{arriving_passing}
use Rattle.walk.specs.Told.{told}
use Rattle.fed_states.specs.declared.State.{State}
use Rattle.fed_states.specs.State.{gone_on, whole_label}
use Rattle.fed_states.proofs.Laws.{and_left, and_right}
use Rattle.fed_bytes.specs.Feed.{took}
use Rattle.fed.specs.Parts.{rest_of}
use Rattle.fed_pieces.specs.Pieces.{Fits}
use Rattle.host_records.proofs.Laws.{length-put}
use Rattle.host_fed_states.specs.Places.{state_of, places_in, flags_put, seeking_of}
use Rattle.host_fed_states.proofs.Laws.{flags_placed}
use Rattle.host_fed_states.proofs.Kept.{rest-same}
use Rattle.host_fed_records.proofs.Putting.{ran-records, ran_labels}
use Rattle.host_fed_records.proofs.Walking.{rest-of, within, Got, got, waits, has-step}
use Rattle.host_fed_records.proofs.Walks.{walks_start, place-within, walks_waits, walks_next, walks_over}
use borrow.Author.Rules.{rules}
use Rattle.host_fed_records.proofs.walk.Goals as goal
use Rattle.host_fed_records.proofs.walk.Goals.{At-loop-c, In-Record}

-- the places are numbers
limit-fits : (c : goal.At-loop-c) → c.limit_of-limit.result < 2 ^ 64
limit-fits c = search rules

piece-fits : (c : goal.At-loop-c) → length c.args.piece.now < 2 ^ 64
piece-fits c = search rules

record Numbers (here i p : ℕ) : Type 0 where
  pub stream : here + p < 2 ^ 64
  pub piece : i + p < 2 ^ 64

-- those of the rest of a piece
numbers : (st : State) (piece : List ℕ) (i : ℕ) → Fits piece st.limit (took st i) → st.limit < 2 ^ 64 → length piece < 2 ^ 64 → (p : ℕ) → p ≤ length (rest-of piece i) → Numbers st.at i p
numbers st piece i f l m p h = let x = place-within st piece i 0 0 [] [] f p h in record { stream = omega (arith, x.0); piece = omega (arith, x.1) }

-- what a step says, where the limit is the state's
says : (tail : List ℕ) (here p limit bound : ℕ) {s r : Result Step WalkError} → limit ≡ bound → told tail (cursor p p) s ≡ arriving_passing (limit - here) tail (cursor p p) → s ≡ r
    → told tail (cursor p p) r ≡ arriving_passing (bound - here) tail (cursor p p)
says tail here p limit bound l t e = rw (l, e) at t

-- where the walk waits
pub returns-in-Rests : goal.returns-in-Rests
returns-in-Rests c =
    let a = c.args in
    let st = seeking_of (state_of a.state.now) a.here a.from in
    let tail = rest-of a.piece.now a.i in
    let f = c.requires.fits in
    let i = c.loop-c.invariant.0 in
    let q = c.in-Rests.c.at in
    let k = rest-same (seeking_of (state_of a.state.now) a.here c.loop-c.since) tail q in
    walks_waits st _ _ _ _ _ _ f i _ (waits st _ _ f _ _ i.label i.more _ (says _ _ _ _ _ c.limit_of-limit.ensures c.arrive.ensures (c.unwrap.ensures ∙ ap Ok c.in-Rests.is)))
    (c.put_flags.ensures ∙ ap flags_put c.put_rest.ensures ∙ ap (λ (x : List ℕ). flags_put (places_in x (rest_of (seeking_of (state_of x) a.here c.loop-c.since) tail q))) c.loop-c.invariant.1
    ∙ flags_placed a.state.now (rest_of (seeking_of (state_of a.state.now) a.here c.loop-c.since) tail q) k.limit k.known k.live) refl

pub unwrap-requires : goal.unwrap-requires
unwrap-requires c =
    let i = c.loop-c.invariant.0 in
    has-step (seeking_of (state_of c.args.state.now) c.args.here c.args.from) _ _ c.requires.fits c.loop-c.p c.loop-c.since i.label i.more _ (says _ _ _ _ _ c.limit_of-limit.ensures c.arrive.ensures refl)

-- a record
record-got : (c : goal.In-Record) → Got (seeking_of (state_of c.args.state.now) c.args.here c.args.from) _ _ c.requires.fits c.loop-c.p c.loop-c.since c.loop-c.invariant.0.label c.loop-c.invariant.0.more c.in-Record.r c.in-Record.c.at
record-got c = got (seeking_of (state_of c.args.state.now) c.args.here c.args.from) _ _ c.requires.fits _ _ _ c.loop-c.invariant.0.more _ _ _ (says _ _ _ _ _ c.limit_of-limit.ensures c.arrive.ensures (c.unwrap.ensures ∙ ap Ok c.in-Record.is))

numbers-here : (c : goal.At-loop-c) (p : ℕ) → p ≤ length (rest-of c.args.piece.now c.args.i) → Numbers c.args.here c.args.i p
numbers-here c p h =
    numbers (seeking_of (state_of c.args.state.now) c.args.here c.args.from) _ _ c.requires.fits (rw c.limit_of-limit.ensures at (limit-fits c)) (piece-fits c) p h

pub put_next-requires : goal.put_next-requires
put_next-requires c =
    let i = c.loop-c.invariant.0 in
    let p = c.requires in
    let t = i.room in
    let g = record-got (goal.at.put_next-requires c).In-Record in
    let x = (numbers-here (goal.at.put_next-requires c).At-loop-c (length (rest-of c.args.piece.now c.args.i)) (omega arith)).stream in
    record {
      places_each_in_bounds = omega (arith, p.most_in_bounds, ran-records _ _ i.ran);
      n_in_bounds = omega (arith, p.most_in_bounds_2, ran_labels _ _ i.ran);
      at_in_bounds = g.there;
      at_bound = omega (arith, g.there);
      value_bound = omega (arith, g.value, g.most);
    }

pub loop-c-preserved : goal.loop-c-preserved
loop-c-preserved c =
    let e = c.put_next.ensures in
    (rw (e.records_after, e.labels_after) (walks_next _ _ _ _ _ _ _ c.requires.fits c.loop-c.invariant.0 _ _ (record-got (goal.at.loop-c-preserved c).In-Record) (ltb-true _ _ (and_left _ _ c.if-m-most.true)) (ltb-true _ _ (and_right (ltb (c.loop-c.m + 1) c.args.most) _ c.if-m-most.true))), c.loop-c.invariant.1)

pub returns-in-Record : goal.returns-in-Record
returns-in-Record c =
    let a = c.args in
    let tail = rest-of a.piece.now a.i in
    let e = c.put_next.ensures in
    let q = c.in-Record.c.at in
    let at = c.in-Record.r.at in
    rw (e.records_after, e.labels_after)
    (walks_over _ _ _ _ _ _ _ c.requires.fits c.loop-c.invariant.0 _ _ (record-got (goal.at.returns-in-Record c).In-Record) (λ x y. false≢true (sym (rw (lt-ltb _ _ x, lt-ltb _ _ y) at c.if-m-most.false)))
    (c.put_flags-in-Record.ensures ∙ ap flags_put c.put_behind.ensures ∙ ap (λ (x : List ℕ). flags_put (places_in x (gone_on (state_of x) (a.here + q) (whole_label tail at)))) c.loop-c.invariant.1
    ∙ flags_placed a.state.now (gone_on (state_of a.state.now) (a.here + q) (whole_label tail at)) refl refl refl) refl)

pub slice_bounds-tail-count : goal.slice_bounds-tail-count
slice_bounds-tail-count c = omega (arith, c.requires.fits.most)

pub slice_bounds-tail-start : goal.slice_bounds-tail-start
slice_bounds-tail-start c = omega (arith, c.requires.fits.most)

pub slice_bounds-tail-end : goal.slice_bounds-tail-end
slice_bounds-tail-end c = omega arith

pub loop-c-init : goal.loop-c-init
loop-c-init c = (walks_start _ _ _ _ _ _ _ c.requires.fits refl c.requires.i_in_bounds c.requires.n_lt_most, refl)

pub overflow_sub-limit : goal.overflow_sub-limit
overflow_sub-limit c = omega (arith, within (seeking_of (state_of c.args.state.now) c.args.here c.args.from) c.args.piece.now c.args.i c.requires.fits, c.limit_of-limit.ensures)

pub shape_of-records-in-Rests : goal.shape_of-records-in-Rests
shape_of-records-in-Rests c = ran-records _ _ c.loop-c.invariant.0.ran

pub shape_of-labels-in-Rests : goal.shape_of-labels-in-Rests
shape_of-labels-in-Rests c = ran_labels _ _ c.loop-c.invariant.0.ran

pub overflow_add-since : goal.overflow_add-since
overflow_add-since c = omega (arith, (numbers-here (goal.at.overflow_add-since c).At-loop-c _ (record-got (goal.at.overflow_add-since c).In-Record).most).stream)

pub overflow_add-m : goal.overflow_add-m
overflow_add-m c = let t = c.loop-c.invariant.0.room in let m = c.requires.fits.most in omega arith

pub loop-c-smaller : goal.loop-c-smaller
loop-c-smaller c = let t = c.loop-c.invariant.0.room in omega arith

pub overflow_add-out : goal.overflow_add-out
overflow_add-out c = omega (arith, (numbers-here (goal.at.overflow_add-out c).At-loop-c _ (record-got (goal.at.overflow_add-out c).In-Record).most).piece)

pub shape_of-records-in-Record : goal.shape_of-records-in-Record
shape_of-records-in-Record c = ap length c.put_next.ensures.records_after ∙ length-put _ _ _ _ ∙ ran-records _ _ c.loop-c.invariant.0.ran

pub shape_of-labels-in-Record : goal.shape_of-labels-in-Record
shape_of-labels-in-Record c = rw c.put_next.ensures.labels_after (simp length-sets (ran_labels _ _ c.loop-c.invariant.0.ran))
