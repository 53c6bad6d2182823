use Prim.Native.Nat.{ℕ, suc, ◌+◌, ◌-◌}
use mathlib.Core.List.{List}
use lib.ListN.{get_or, set}
use mathlib.Core.Path.{◌≡◌, sym, ap, ◌∙◌}
use native.Mathlib.Omega.{arith}
use Rattle.fed_bytes.specs.Fill.{label_with, ber_with}
use Rattle.fed_bytes.proofs.Filled.{label-none, ber-none, label-more, label_same, ber_early, ber-more}
use Rattle.fed.proofs.fill.Goals as goal
use Rattle.fed.proofs.fill.Goals.{then-at-lt16, else-at-lt16}

pub loop-n-init : goal.loop-n-init
loop-n-init c = (label-none _ _ _, ber-none _ _ _)

pub loop-n-preserved : goal.loop-n-preserved
loop-n-preserved c =
    let st = c.args.st in
    let l = c.args.piece.now in
    let i = c.args.i in
    let n = c.loop-n.n in
    let label = c.loop-n.invariant.0 in
    let ber = c.loop-n.invariant.1 in
    let z : suc n ≡ n + 1 = omega arith in
    elim c.if-at-lt16.branch [
      | then-at-lt16 x ↦ (
        x.label-is ∙ ap (λ (y : List ℕ). set y (st.have + n) (get_or l (i + n) 0)) label ∙ sym (label-more st l i n x.if-at-lt16.true) ∙ ap (label_with st l i) z,
        x.ber-is ∙ ber ∙ sym (ber_early st l i n x.if-at-lt16.true) ∙ ap (ber_with st l i) z,
      )
      | else-at-lt16 x ↦ (
        x.label-is ∙ label ∙ sym (label_same st l i n x.if-at-lt16.false) ∙ ap (label_with st l i) z,
        x.ber-is ∙ ap (λ (y : List ℕ). set y (st.have + n - 16) (get_or l (i + n) 0)) ber ∙ sym (ber-more st l i n x.if-at-lt16.false (omega arith)) ∙ ap (ber_with st l i) z,
      )
    ]

pub returns : goal.returns
returns c =
    let a = c.args in
    let e : c.loop-n.n ≡ a.m = omega arith in
    let label = c.loop-n.invariant.0 ∙ ap (label_with a.st a.piece.now a.i) e in
    let ber = c.loop-n.invariant.1 ∙ ap (ber_with a.st a.piece.now a.i) e in
    λ q. record { limit = a.st.limit; known = a.st.known; live = a.st.live; at = a.st.at; have = a.st.have + a.m; since = a.st.since; label = label q; ber = ber q }
