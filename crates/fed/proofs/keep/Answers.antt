use Prim.Native.Nat.{ℕ, ◌+◌, ◌-◌, ◌≤◌, ◌<◌, min}
use mathlib.Core.Path.{◌≡◌, sym, ap, ap₂, ◌∙◌}
use native.Mathlib.Nat.{le_refl}
use native.Mathlib.Omega.{arith}
use lib.ListN.{length}
use Rattle.search.specs.Search.{key_before, search_from, key_begins, wait_from}
use Rattle.search.proofs.Laws.{end-within}
use Rattle.search.proofs.Found.{search_most, search_holds, key-room}
use Rattle.fed_states.specs.declared.State.{State}
use Rattle.fed_states.specs.State.{sought}
use Rattle.fed_bytes.specs.Fill.{filled}
use Rattle.fed_bytes.proofs.Filled.{only-counted}
use Rattle.fed_bytes.proofs.Keeping.{kept-key, kept-none}
use Rattle.fed.specs.Parts.{having}
use Rattle.fed.proofs.keep.Goals as goal
use Rattle.fed.proofs.keep.Goals.{After-next_key-r, After-wait_from-q}

-- what the searches answer
found : (c : goal.After-next_key-r) → c.next_key-r.result ≡ search_from c.args.s.now (length c.args.s.now) c.args.w
found c = c.next_key-r.ensures ∙ sym (end-within _ _ _ (le_refl _))

room : (c : goal.After-next_key-r) → c.next_key-r.result < length c.args.s.now → c.next_key-r.result + 4 ≤ length c.args.s.now
room c h =
    let s = c.args.s.now in
    let f = (let h : c.next_key-r.result ≡ search_from c.args.s.now (length c.args.s.now) c.args.w = c.next_key-r.ensures ∙ sym (end-within _ _ _ (le_refl _)) in h) in
    let m : search_from s (length s) c.args.w < length s = omega arith in
    omega (arith, key-room s (length s) (search_from s (length s) c.args.w) (search_holds (key_before s (length s)) (length s) c.args.w c.requires.w_in_bounds m))

near : (c : goal.After-wait_from-q) → c.wait_from-q.result ≤ length c.args.s.now
near c =
    let e : c.wait_from-q.result ≡ wait_from c.args.s.now c.args.w = c.wait_from-q.ensures in
    omega (arith, e, search_most (key_begins c.args.s.now) (length c.args.s.now) c.args.w, c.requires.w_in_bounds)

pub overflow_sub-min : goal.overflow_sub-min
overflow_sub-min c = omega (arith, c.min.ensures, room (goal.at.overflow_sub-min c).After-next_key-r c.if-r-s.true)

pub fill-k-requires : goal.fill-k-requires
fill-k-requires c =
    let n = room (goal.at.fill-k-requires c).After-next_key-r c.if-r-s.true in
    let m = c.min.ensures in
    record { m_in_bounds = omega arith; m_bound = rw c.sought.ensures (omega arith) }

pub returns-then-r-s : goal.returns-then-r-s
returns-then-r-s c =
    let a = c.args in
    let r = c.next_key-r.result in
    let f = found (goal.at.returns-then-r-s c).After-next_key-r in
    let n = room (goal.at.returns-then-r-s c).After-next_key-r c.if-r-s.true in
    let e = c.min.ensures in
    let is : c.fill-k.result ≡ filled (sought a.st (a.here + r) 4) a.s.now (r + 4) (min (length a.s.now - r) 25 - 4) =
    c.fill-k.ensures ∙ ap₂ (λ (s : State) (m : ℕ). filled s a.s.now (r + 4) (m - 4)) c.sought.ensures e in
    let k = only-counted (sought a.st (a.here + r) 4) a.s.now (r + 4) (min (length a.s.now - r) 25 - 4) (length a.s.now - (r + 4)) (omega arith) (λ h. omega arith) in
    let z : 4 + (length a.s.now - (r + 4)) ≡ length a.s.now - r = omega arith in
    ap (λ (s : State). having s (length a.s.now - r)) is
    ∙ ap (λ (m : ℕ). having (filled (sought a.st (a.here + r) 4) a.s.now (r + 4) (min (length a.s.now - r) 25 - 4)) m) (sym z)
    ∙ sym k ∙ sym (kept-key a.st a.here a.s.now a.w (omega (arith, f, c.if-r-s.true)) ∙ ap (λ (q : ℕ). filled (sought a.st (a.here + q) 4) a.s.now (q + 4) (length a.s.now - (q + 4))) (sym f))

pub overflow_add-here-2 : goal.overflow_add-here-2
overflow_add-here-2 c = omega (arith, near (goal.at.overflow_add-here-2 c).After-wait_from-q, c.requires.s_bound)

pub overflow_sub-s : goal.overflow_sub-s
overflow_sub-s c = near (goal.at.overflow_sub-s c).After-wait_from-q

pub returns : goal.returns
returns c =
    let a = c.args in
    let e : c.wait_from-q.result ≡ wait_from a.s.now a.w = c.wait_from-q.ensures in
    c.sought-2.ensures ∙ ap (λ (q : ℕ). sought a.st (a.here + q) (length a.s.now - q)) e
    ∙ sym (kept-none a.st a.here a.s.now a.w (omega (arith, found (goal.at.returns c).After-next_key-r)))
