-- `fed::bite` meets its contract: nothing comes of the bytes, or something of one of them.
use Prim.Native.Nat.{ℕ, ◌+◌, ◌-◌, ◌≤◌, max}
use mathlib.Core.Path.{◌≡◌, sym, ap, ◌∙◌}
use native.Mathlib.Omega.{arith}
use lib.ListN.{length}
use Rattle.lengths.proofs.Errors.{cut-so, not-cut}
use Rattle.fed_states.specs.declared.State.{State}
use Rattle.fed_states.specs.State.{length_of}
use Rattle.steps.specs.Told.{nothing}
use Rattle.fed_bytes.specs.Eat.{turned, turn_of}
use Rattle.fed_bytes.specs.Feed.{took}
use Rattle.fed.specs.Parts.{having, due_of}
use Rattle.fed.proofs.Biting.{kept, kept_by, bitten_quiet, bitten_comes, comes_never, due_late_enough, comes_later, comes_now}
use Rattle.fed.proofs.bite.Goals as goal
use Rattle.fed.proofs.bite.Goals.{After-length_of-l, After-max-e}

-- what the bytes are filled in to, and the length behind them
is-kept : (c : goal.After-length_of-l) → c.fill-s.result ≡ kept c.args.st c.args.piece.now c.args.i c.requires.i_in_bounds c.requires.i_bound c.requires.le_have
is-kept c = kept_by c.args.st c.args.piece.now c.args.i c.requires.i_in_bounds c.requires.i_bound c.requires.le_have _ _ _ c.fill-s.ensures c.min.ensures c.saturating_sub.ensures

is-length : (c : goal.After-length_of-l) → length_of (kept c.args.st c.args.piece.now c.args.i c.requires.i_in_bounds c.requires.i_bound c.requires.le_have) ≡ c.length_of-l.result
is-length c = sym (c.length_of-l.ensures ∙ ap (λ (s : State). length_of s) (kept_by c.args.st c.args.piece.now c.args.i c.requires.i_in_bounds c.requires.i_bound c.requires.le_have _ _ _ c.fill-s.ensures c.min.ensures c.saturating_sub.ensures))

due-is : (c : goal.After-max-e) → c.max-e.result ≡ max (due_of (kept c.args.st c.args.piece.now c.args.i c.requires.i_in_bounds c.requires.i_bound c.requires.le_have) c.length_of-l.result) (c.args.st.have + 1)
due-is c =
    c.max-e.ensures
    ∙ ap (λ (m : ℕ). max m (c.args.st.have + 1))
    (c.due.ensures ∙ ap (λ (s : State). due_of s c.length_of-l.result) (kept_by c.args.st c.args.piece.now c.args.i c.requires.i_in_bounds c.requires.i_bound c.requires.le_have _ _ _ c.fill-s.ensures c.min.ensures c.saturating_sub.ensures))

pub overflow_sub-more : goal.overflow_sub-more
overflow_sub-more c = omega arith

pub fill-s-requires : goal.fill-s-requires
fill-s-requires c = rw (c.min.ensures, c.saturating_sub.ensures) record { m_in_bounds = omega arith; m_bound = omega arith }

pub overflow_add-have : goal.overflow_add-have
overflow_add-have c = omega arith

pub returns-then-eq : goal.returns-then-eq
returns-then-eq c =
    let p = (goal.at.returns-then-eq c).After-length_of-l in
    bitten_quiet c.args.st c.args.piece.now c.args.i c.requires.i_in_bounds c.requires.i_bound c.requires.le_have c.quiet.result
    (c.quiet.ensures ∙ ap (λ (s : State). nothing (took (having s (c.args.st.have + (length c.args.piece.now - c.args.i))) (length c.args.piece.now))) (is-kept p))
    (comes_never c.args.st c.args.piece.now c.args.i c.requires.i_in_bounds c.requires.i_bound c.requires.le_have (is-length p ∙ cut-so _ (sym c.eq.ensures ∙ c.if-eq.true)))

pub due-requires : goal.due-requires
due-requires c = record { have_bound = rw (is-kept (goal.at.due-requires c).After-length_of-l) (omega (arith, c.requires.i_in_bounds, c.requires.i_bound)); l_value = c.length_of-l.ensures }

pub overflow_add-have-2 : goal.overflow_add-have-2
overflow_add-have-2 c = omega arith

pub overflow_add-have-3 : goal.overflow_add-have-3
overflow_add-have-3 c = omega arith

pub returns-then-have-more : goal.returns-then-have-more
returns-then-have-more c =
    let p = (goal.at.returns-then-have-more c).After-length_of-l in
    bitten_quiet c.args.st c.args.piece.now c.args.i c.requires.i_in_bounds c.requires.i_bound c.requires.le_have c.quiet-then-have-more.result
    (c.quiet-then-have-more.ensures ∙ ap (λ (s : State). nothing (took (having s (c.args.st.have + (length c.args.piece.now - c.args.i))) (length c.args.piece.now))) (is-kept p))
    (comes_later c.args.st c.args.piece.now c.args.i c.requires.i_in_bounds c.requires.i_bound c.requires.le_have _ (is-length p) (not-cut _ (sym c.eq.ensures ∙ c.if-eq.false)) _ (due-is (goal.at.returns-then-have-more c).After-max-e) (omega arith))

enough : (c : goal.After-max-e) → 17 ≤ c.max-e.result
enough c = due_late_enough c.args.st c.args.piece.now c.args.i c.requires.i_in_bounds c.requires.i_bound c.requires.le_have _ (sym (c.length_of-l.ensures ∙ ap (λ (s : State). length_of s) (kept_by c.args.st c.args.piece.now c.args.i c.requires.i_in_bounds c.requires.i_bound c.requires.le_have _ _ _ c.fill-s.ensures c.min.ensures c.saturating_sub.ensures))) (not-cut _ (sym c.eq.ensures ∙ c.if-eq.false)) _
    (c.max-e.ensures
    ∙ ap (λ (m : ℕ). max m (c.args.st.have + 1))
    (c.due.ensures ∙ ap (λ (s : State). due_of s c.length_of-l.result) (kept_by c.args.st c.args.piece.now c.args.i c.requires.i_in_bounds c.requires.i_bound c.requires.le_have _ _ _ c.fill-s.ensures c.min.ensures c.saturating_sub.ensures)))

pub turn-r-requires : goal.turn-r-requires
turn-r-requires c =
    record { have_bound = rw (is-kept (goal.at.turn-r-requires c).After-length_of-l) (omega (arith, c.requires.i_in_bounds, c.requires.i_bound)); le_have = enough (goal.at.turn-r-requires c).After-max-e }

pub overflow_sub-result : goal.overflow_sub-result
overflow_sub-result c = omega (arith, due-is (goal.at.overflow_sub-result c).After-max-e)

pub overflow_add-result : goal.overflow_add-result
overflow_add-result c = omega (arith, due-is (goal.at.overflow_add-result c).After-max-e)

pub returns : goal.returns
returns c =
    let p = (goal.at.returns c).After-length_of-l in
    let e = (goal.at.returns c).After-max-e in
    bitten_comes c.args.st c.args.piece.now c.args.i c.requires.i_in_bounds c.requires.i_bound c.requires.le_have c.max-e.result (omega (arith, due-is e)) (omega arith) (enough e)
    c.turn-r.result (c.turn-r.ensures ∙ ap (λ (s : State). turned (having s c.max-e.result) (turn_of (having s c.max-e.result))) (is-kept p))
    (comes_now c.args.st c.args.piece.now c.args.i c.requires.i_in_bounds c.requires.i_bound c.requires.le_have _ (is-length p) (not-cut _ (sym c.eq.ensures ∙ c.if-eq.false)) _ (due-is e) (omega arith))
