-- `search::seek` meets its contract. The loop's invariant: the search from where the blocks lead is the search that was asked for.
use Prim.Native.Nat.{◌+◌, ◌<◌}
use mathlib.Core.Path.{◌≡◌, refl, ◌∙◌}
use mathlib.Core.Logic.{by_cases}
use native.Mathlib.Omega.{arith}
use native.Mathlib.Decide.{dec_lt}
use lib.ListN.{length}
use Rattle.search.specs.Search.{key_before, search_from}
use Rattle.search.proofs.Laws.{key-none}
use Rattle.search.proofs.Found.{search_between}
use Rattle.search.proofs.seek.Goals as goal
use Rattle.search.proofs.seek.Goals.{After-pass-r, Else-r-at}

-- where the search is after a block, from places that were passed
passed : (c : goal.After-pass-r)
    → search_from c.args.s.now (length c.args.s.now) c.pass-r.result ≡ search_from c.args.s.now (length c.args.s.now) c.args.from
passed c =
    let e = length c.args.s.now in
    let p = c.pass-r.ensures in
    let l = c.min-at.ensures in
    let i = c.loop-q.invariant in
    p.2 e (omega (arith, p.1)) ∙ search_between (key_before c.args.s.now e) e c.args.from c.min-at.result c.loop-q.q (omega (arith, i.0)) (omega arith) (omega (arith, i.1)) i.2

pub returns-then-r-at : goal.returns-then-r-at
returns-then-r-at c =
    let m = c.saturating_sub.ensures in
    c.soon.ensures
    ∙ by_cases (dec_lt c.pass-r.result c.loop-q.q)
    (λ h. let e : c.loop-q.q + c.saturating_sub.result ≡ c.loop-q.q = omega arith in rw e c.loop-q.invariant.2)
    (λ h. let e : c.loop-q.q + c.saturating_sub.result ≡ c.pass-r.result = omega arith in rw e (passed (goal.at.returns-then-r-at c).After-pass-r))

bounds : (c : goal.Else-r-at) → (c.pass-r.result ≡ c.min-at.result + 64) × (c.loop-q.q < c.pass-r.result)
bounds c =
    let p = c.pass-r.ensures in
    let l = c.min-at.ensures in
    (omega (arith, p.0, p.1), omega (arith, p.0, p.1, c.loop-q-test.true))

pub loop-q-init : goal.loop-q-init
loop-q-init c = (omega arith, omega arith, refl)

pub pass-r-requires : goal.pass-r-requires
pass-r-requires c = omega (arith, c.min-at.ensures)

pub overflow_add-at : goal.overflow_add-at
overflow_add-at c = omega (arith, c.min-at.ensures)

pub overflow_add-q : goal.overflow_add-q
overflow_add-q c = omega (arith, c.saturating_sub.ensures, c.pass-r.ensures.1, c.loop-q.invariant.1)

pub loop-q-smaller : goal.loop-q-smaller
loop-q-smaller c = omega (arith, (bounds (goal.at.loop-q-smaller c).Else-r-at).0, (bounds (goal.at.loop-q-smaller c).Else-r-at).1, c.min-at.ensures)

pub loop-q-preserved : goal.loop-q-preserved
loop-q-preserved c = (omega (arith, (bounds (goal.at.loop-q-preserved c).Else-r-at).1, c.loop-q.invariant.0), omega (arith, (bounds (goal.at.loop-q-preserved c).Else-r-at).0, c.min-at.ensures), passed (goal.at.loop-q-preserved c).After-pass-r)

pub returns : goal.returns
returns c = key-none _ _ _ (omega (arith, c.loop-q.invariant.1)) (omega arith) ∙ c.loop-q.invariant.2
