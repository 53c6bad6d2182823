-- `host_fed::walk` meets its contract: what the step says of the rest of the piece decides the lent arrays.
use Rattle.std.proofs.Common.{◌≡◌, ◌+◌, ◌-◌, ◌≤◌, ◌<◌, ◌^◌, length, take, drop, Ok, refl, sym, ap, ◌∙◌, arith, rules}
use Rattle.fed_states.specs.State.{sought, gone_on, whole_label}
use Rattle.fed_states.proofs.Laws.{label-whole}
use Rattle.fed.proofs.Arriving.{Got, Rests}
use Rattle.fed.proofs.Reaching.{rest_in}
use Rattle.fed.specs.Parts.{rest_of}
use Rattle.host_fed_states.specs.Places.{state_of}
use Rattle.host_fed_states.proofs.Laws.{placed}
use Rattle.host_fed_states.proofs.Kept.{rest-same}
use Rattle.host_fed.proofs.Laws.{is_found, is-nothing}
use Rattle.host_fed.proofs.Walking as walking
use Rattle.host_fed.proofs.walk.Goals as goal
use Rattle.host_fed.proofs.walk.Goals.{After-limit_of-limit, In-Record, In-Rests, Start}

zero : (c : goal.Start) → c.args.here + 0 ≡ c.args.here
zero c = omega arith

-- in the arm of a record, and where the walk waits
got : (c : goal.In-Record) → Got (sought (state_of c.args.state.now) c.args.here 0) c.args.piece.now c.args.i c.requires.i_in_bounds (walking.fits (state_of c.args.state.now) c.args.here c.args.piece.now c.args.i c.requires.i_in_bounds c.requires.i_bound) c.in-Record.k c.in-Record.c.at
got c = walking.got (state_of c.args.state.now) c.args.here c.args.piece.now c.args.i c.requires.i_in_bounds c.requires.i_bound _ _ c.limit_of-limit.ensures c.arrive.ensures _ _ _ (c.unwrap.ensures ∙ ap Ok c.in-Record.is)

rests : (c : goal.In-Rests) → Rests (sought (state_of c.args.state.now) c.args.here 0) c.args.piece.now c.args.i c.requires.i_in_bounds (walking.fits (state_of c.args.state.now) c.args.here c.args.piece.now c.args.i c.requires.i_in_bounds c.requires.i_bound) c.in-Rests.c.at
rests c = walking.rests (state_of c.args.state.now) c.args.here c.args.piece.now c.args.i c.requires.i_in_bounds c.requires.i_bound _ _ c.limit_of-limit.ensures c.arrive.ensures _ (c.unwrap.ensures ∙ ap Ok c.in-Rests.is)

-- places are numbers
limit-fits : (c : goal.After-limit_of-limit) → c.limit_of-limit.result < 2 ^ 64
limit-fits c = search rules

piece-fits : (c : goal.Start) → length c.args.piece.now < 2 ^ 64
piece-fits c = search rules

room : (c : goal.After-limit_of-limit) → c.args.here + length (take (length c.args.piece.now - c.args.i) (drop c.args.i c.args.piece.now)) < 2 ^ 64
room c = omega (arith, walking.long (state_of c.args.state.now) c.args.here c.args.piece.now c.args.i c.requires.i_in_bounds c.requires.i_bound, c.requires.i_bound, (let h : c.limit_of-limit.result < 2 ^ 64 = search rules in h), c.limit_of-limit.ensures)

pub unwrap-requires : goal.unwrap-requires
unwrap-requires c = walking.has-step (state_of c.args.state.now) c.args.here c.args.piece.now c.args.i c.requires.i_in_bounds c.requires.i_bound _ _ c.limit_of-limit.ensures c.arrive.ensures

pub returns-in-Record : goal.returns-in-Record
returns-in-Record c =
    λ x. let g = got (goal.at.returns-in-Record c).In-Record in
    rw (c.put_behind.ensures, placed c.args.state.now c.requires.state_value (gone_on (state_of c.args.state.now) (c.args.here + c.in-Record.c.at) (whole_label (take (length c.args.piece.now - c.args.i) (drop c.args.i c.args.piece.now)) c.in-Record.k.at)) refl refl refl, c.label_at-key.ensures, c.saturating_sub-passed.ensures, c.mark-shortest.ensures, label-whole _ _ g.there, g.ends)
    (is_found _ x _ _ _ _ (rw (zero (goal.at.returns-in-Record c).Start) at g.is))

pub returns-in-Rests : goal.returns-in-Rests
returns-in-Rests c =
    λ x. let r = rests (goal.at.returns-in-Rests c).In-Rests in
    let s = rest-same (sought (state_of c.args.state.now) c.args.here 0) (take (length c.args.piece.now - c.args.i) (drop c.args.i c.args.piece.now)) c.in-Rests.c.at in
    rw (c.put_rest.ensures, placed c.args.state.now c.requires.state_value (rest_of (sought (state_of c.args.state.now) c.args.here 0) (take (length c.args.piece.now - c.args.i) (drop c.args.i c.args.piece.now)) c.in-Rests.c.at) s.limit s.known s.live, sym (rest_in (sought (state_of c.args.state.now) c.args.here 0) (take (length c.args.piece.now - c.args.i) (drop c.args.i c.args.piece.now)) c.in-Rests.c.at (omega (arith, walking.long (state_of c.args.state.now) c.args.here c.args.piece.now c.args.i c.requires.i_in_bounds c.requires.i_bound, c.requires.i_bound)) r.most))
    (is-nothing _ x _ _ _ (rw (zero (goal.at.returns-in-Rests c).Start) at r.is))

pub overflow_sub-limit : goal.overflow_sub-limit
overflow_sub-limit c = omega (arith, c.requires.i_bound, c.limit_of-limit.ensures)

pub overflow_add-at : goal.overflow_add-at
overflow_add-at c = omega (arith, got (goal.at.overflow_add-at c).In-Record, room (goal.at.overflow_add-at c).After-limit_of-limit)

pub overflow_add-value : goal.overflow_add-value
overflow_add-value c = omega (arith, got (goal.at.overflow_add-value c).In-Record, room (goal.at.overflow_add-value c).After-limit_of-limit)

pub overflow_add-next : goal.overflow_add-next
overflow_add-next c = omega (arith, got (goal.at.overflow_add-next c).In-Record, room (goal.at.overflow_add-next c).After-limit_of-limit)

pub overflow_add-taken : goal.overflow_add-taken
overflow_add-taken c =
    let g = got (goal.at.overflow_add-taken c).In-Record in
    omega (arith, g.ends, g.most, walking.long (state_of c.args.state.now) c.args.here c.args.piece.now c.args.i c.requires.i_in_bounds c.requires.i_bound, c.requires.i_in_bounds, piece-fits (goal.at.overflow_add-taken c).Start)
