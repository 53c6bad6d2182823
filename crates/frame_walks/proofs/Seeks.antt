-- A frame walk's step from what it makes of one record: it stops there, passes it, or rests. Assumes nothing.
use Rattle.frame_walks.specs.declared.FrameStep.{FrameStep}
use Rattle.std.proofs.Common.{sym, ◌≡◌, ℕ, ◌-◌, ◌<◌, ◌≤◌, max, Bool, true, false, cond, ltb, List, length, refl, ap, arith, ltb-false, Result, Ok, Err, IsOk}
use Rattle.steps.specs.Told.{Told, found, nothing, refused}
use Rattle.steps.specs.Tells.{Said, tells, passes, state_of}
use Rattle.steps.specs.Next.{Cursor, cursor}
use Rattle.steps.specs.Passed.{Passed}
use Rattle.steps.proofs.Laws.{Moves}
use Rattle.steps.proofs.Next.{next-given, next-passed, next_rests}
use Rattle.search.specs.Search.{wait_from}
use Rattle.klv.specs.declared.Klv.{Klv}
use Rattle.klv.specs.Item.{Item, item, past}
use Rattle.walk.specs.declared.Walked.{Walked}
use Rattle.walk.specs.declared.Walked.TheVariants.{Found, Stopped, Lost}
use Rattle.walk.specs.declared.Way.{Way}
use Rattle.walk.specs.declared.Way.TheVariants.{Finished, Arriving}
use Rattle.walk.specs.Walk.{walked, finished_after, finished_by, arriving_after, arriving_by}
use Rattle.walk.specs.Passed as passes-by
use Rattle.walk.specs.Passed.{last_on}
use Rattle.walk.specs.declared.WalkError.{WalkError}
use Rattle.walk.specs.declared.WalkError.TheVariants.{ShortBuffer, OverLimit}
use Rattle.walk.specs.declared.Step.{Step}
use Rattle.walk.specs.Ways.{bounds_of}
use Rattle.walk.specs.Told.{refusal, refused_by, step_on}
use Rattle.walk.specs.Told as walks
use Rattle.walk.proofs.Answers.{finished_never, arriving_never, finished-counts, finished_rests, finished_loses, arriving-counts, arriving_rests, arriving_loses}
use Rattle.records.proofs.Lists as lists
use Rattle.records.proofs.Lists.{found-next, finished-says, arriving-says}
use Rattle.frame_walks.specs.declared.Kind.{Kind}
use Rattle.frame_walks.specs.declared.Kind.TheVariants as kinds
use Rattle.frame_walks.specs.declared.Camera.{Camera}
use Rattle.frame_walks.specs.declared.Place.{Place}
use Rattle.std.specs.declared.ops.ControlFlow.{ControlFlow}
use Rattle.std.specs.declared.ops.ControlFlow.TheVariants.{Break, Continue}
use Rattle.frame_walks.specs.declared.FrameStep.TheVariants as step
use Rattle.frame_walks.specs.Kinds.{kind, longest_of, is_frame, goes_on_at}
use Rattle.frame_walks.specs.Frames.{Carried, carried, Shown, framed, given, after, showing_as, showing, as_counted, record_on, end_on, next, beyond, frame_step}
use Rattle.frame_walks.specs.Told.{carried_by, place_at, told, place, shown_as, said_as, looked_as}
use Rattle.frame_walks.proofs.Laws.{goes-onward}

-- A record by its kind

module _ (c : Camera) (k : Place) (i : Item) (m : ℕ) (counts : m ≡ i.klv.at - k.since) where
  pub met_frame : kind c i ≡ kinds.Frame → (q : ℕ) (b : Bool) → b ≡ ltb (longest_of c) i.klv.len → q ≡ cond b i.klv.value (past i.klv)
      → Break (step.Frame (record { number = k.number; element = i.klv; overlong = b }) m (place q (carried q (after k.number))))
      ≡ said_as (goes_on_at c i) (showing c (carried_by k) i)
  unfolding said_as shown_as showing showing_as is_frame goes_on_at
  met_frame x q b o v = rw (counts, v, o) (simp x)

  module _ (q : ℕ) (ends : q ≡ past i.klv) where
    pub met_given : kind c i ≡ kinds.Given → Break (step.Given i.klv m (place q (carried q k.number))) ≡ said_as (goes_on_at c i) (showing c (carried_by k) i)
    unfolding said_as shown_as showing showing_as is_frame goes_on_at
    met_given x = rw (counts, ends) (simp x)

    pub met_other : kind c i ≡ kinds.Other → Continue (place q (carried q k.number)) ≡ said_as (goes_on_at c i) (showing c (carried_by k) i)
    unfolding said_as showing showing_as is_frame goes_on_at
    met_other x = rw ends (simp x)

module _ (c : Camera) (i : Item) where
  -- walking last went on where it goes on from the record
  pub since-goes : (t : Carried) → (state_of (showing c t i)).since ≡ goes_on_at c i
  unfolding state_of showing showing_as
  since-goes t = go (kind c i)
    where
      go : (x : Kind) → (state_of (showing_as c t i x)).since ≡ goes_on_at c i
      go kinds.Frame = refl
      go kinds.Given = refl
      go kinds.Other = refl

-- What is beyond a walk's bounds

beyond_by : (w : Way) (s : List ℕ) (e : WalkError) → bounds_of w s ≡ Err e → (beyond w s ≡ true) × (refused_by e ≡ refusal w)
unfolding bounds_of beyond refusal
beyond_by (Finished end) s e b = go (ltb (length s) end) refl
  where
    go : (x : Bool) → ltb (length s) end ≡ x → (ltb (length s) end ≡ true) × (refused_by e ≡ 1)
    go true h = (h, let z : ShortBuffer ≡ e = cc in rw (sym z) refl)
    go false h = absurd (let z : ◌≡◌ {A = ℕ} 0 1 = cc in omega arith)
beyond_by (Arriving most) s e b = go (ltb most (length s)) refl
  where
    go : (x : Bool) → ltb most (length s) ≡ x → (ltb most (length s) ≡ true) × (refused_by e ≡ 2)
    go true h = (h, let z : OverLimit ≡ e = cc in rw (sym z) refl)
    go false h = absurd (let z : ◌≡◌ {A = ℕ} 0 1 = cc in omega arith)

pub not-beyond : (w : Way) (s : List ℕ) (x : ℕ × ℕ) → bounds_of w s ≡ Ok x → beyond w s ≡ false
unfolding bounds_of beyond
not-beyond (Finished end) s x b = go (ltb (length s) end) refl
  where
    go : (y : Bool) → ltb (length s) end ≡ y → ltb (length s) end ≡ false
    go true h = absurd (let z : ◌≡◌ {A = ℕ} 0 1 = cc in omega arith)
    go false h = h
not-beyond (Arriving most) s x b = go (ltb most (length s)) refl
  where
    go : (y : Bool) → ltb most (length s) ≡ y → ltb most (length s) ≡ false
    go true h = absurd (let z : ◌≡◌ {A = ℕ} 0 1 = cc in omega arith)
    go false h = h

-- A step is refused, or is the next of what is shown

module _ (c : Camera) (w : Way) (s : List ℕ) where
  pub frame_refused : (k : Place) (e : WalkError) → bounds_of w s ≡ Err e → told (place_at k) (Err e) ≡ frame_step c w s (place_at k)
  unfolding told frame_step
  frame_refused k e b = let x = beyond_by w s e b in rw (x.0, x.1)

  pub frame-within : beyond w s ≡ false → (k : Cursor Carried) → frame_step c w s k ≡ next c w s (as_counted k)
  unfolding frame_step
  frame-within h k = rw h

-- A record's step goes by where the turns lead, in either walk

module _ (c : Camera) where
  pub record_moves : (w : Way) (s : List ℕ) → Moves (record_on c w s) (end_on w s)
  unfolding record_on end_on finished_by arriving_by
  record_moves (Finished e) s = lists.moves (goes_on_at c) (goes-onward c) 0 s e (finished_after (goes_on_at c) s e) (finished-says (goes_on_at c) s e)
  record_moves (Arriving limit) a = lists.moves (goes_on_at c) (goes-onward c) limit a (length a) (arriving_after (goes_on_at c) a) (arriving-says (goes_on_at c) a)

  -- walking goes on from where the cursor is then
  pub record_goes : (w : Way) (s : List ℕ) (p : ℕ) (i : Item) (q : ℕ) → record_on c w s p ≡ found i q → goes_on_at c i ≡ q
  unfolding record_on finished_by arriving_by
  record_goes (Finished e) s p = found-next (goes_on_at c) s (finished_after (goes_on_at c) s e) (finished-says (goes_on_at c) s e) (walked 0 s e p)
  record_goes (Arriving limit) a p = found-next (goes_on_at c) a (arriving_after (goes_on_at c) a) (arriving-says (goes_on_at c) a) (walked limit a (length a) p)

  pub record_never : (w : Way) (s : List ℕ) (p n q : ℕ) → record_on c w s p ≡ refused n q → ⊥
  unfolding record_on
  record_never (Finished e) s = finished_never (goes_on_at c) s e
  record_never (Arriving limit) a = arriving_never (goes_on_at c) a limit

-- Beside a step of the plain walk that is not refused, a camera's: both find a record, or rest

pub data Turned (c : Camera) (w : Way) (s : List ℕ) (k : Cursor ℕ) : Type 0 where
  find : (r : Klv) → step_on w s k ≡ found (passes-by.counted (last_on k) (item 16 s r)) (cursor (past r) (past r)) → record_on c w s k.at ≡ found (item 16 s r) (goes_on_at c (item 16 s r)) → Turned c w s k
  rest : (q : ℕ) → step_on w s k ≡ nothing (cursor q (last_on k)) → record_on c w s k.at ≡ nothing q → Turned c w s k

turned : (c : Camera) (w : Way) (s : List ℕ) → beyond w s ≡ false → (k : Cursor ℕ) → Turned c w s k
unfolding beyond step_on record_on finished_by finished_after arriving_by arriving_after
turned c (Finished e) s h k = go (walked 0 s e k.at) refl
  where
    within : e ≤ length s
    within = ltb-false (length s) e h

    go : (t : Walked) → walked 0 s e k.at ≡ t → Turned c (Finished e) s k
    go (Found r) t = find r (finished-counts k s e within r t) (rw t)
    go (Stopped q) t = rest q (finished_rests k s e within q t) (rw t)
    go (Lost q) t = rest (max e q) (finished_loses k s e within q t) (rw t)
turned c (Arriving limit) a h k = go (walked limit a (length a) k.at) refl
  where
    within : length a ≤ limit
    within = ltb-false limit (length a) h

    go : (t : Walked) → walked limit a (length a) k.at ≡ t → Turned c (Arriving limit) a k
    go (Found r) t = find r (arriving-counts k limit a within r t) (rw t)
    go (Stopped q) t = rest q (arriving_rests k limit a within q t) (rw t)
    go (Lost q) t = rest (wait_from a q) (arriving_loses k limit a within q t) (rw t)

-- so each answer of the plain step is the camera's, but for where walking goes on
module _ (c : Camera) (w : Way) (s : List ℕ) (h : beyond w s ≡ false) (k : Cursor ℕ) where
  pub found_so : (i : Passed Item) (q : Cursor ℕ) → found i q ≡ step_on w s k
      → (record_on c w s k.at ≡ found i.it (goes_on_at c i.it)) × (q.at ≡ past i.it.klv) × (i.passed ≡ i.it.klv.at - last_on k)
  found_so i q x = go (turned c w s h k)
    where
      go : Turned c w s k → (record_on c w s k.at ≡ found i.it (goes_on_at c i.it)) × (q.at ≡ past i.it.klv) × (i.passed ≡ i.it.klv.at - last_on k)
      go (find r a b) =
          let y : i ≡ passes-by.counted (last_on k) (item 16 s r) = cc in
          let z : q ≡ cursor (past r) (past r) = cc in
          rw (y, z) (b, refl, refl)
      go (rest r a b) = absurd (let z : ◌≡◌ {A = ℕ} 0 1 = cc in omega arith)

  pub nothing_so : (q : Cursor ℕ) → nothing q ≡ step_on w s k → (record_on c w s k.at ≡ nothing q.at) × (q.carried ≡ last_on k)
  nothing_so q x = go (turned c w s h k)
    where
      go : Turned c w s k → (record_on c w s k.at ≡ nothing q.at) × (q.carried ≡ last_on k)
      go (find r a b) = absurd (let z : ◌≡◌ {A = ℕ} 0 1 = cc in omega arith)
      go (rest r a b) = let z : q ≡ cursor r (last_on k) = cc in rw z (b, refl)

  never_so : (n : ℕ) (q : Cursor ℕ) → refused n q ≡ step_on w s k → ⊥
  never_so n q x = go (turned c w s h k)
    where
      go : Turned c w s k → ⊥
      go (find r a b) = let z : ◌≡◌ {A = ℕ} 0 1 = cc in omega arith
      go (rest r a b) = let z : ◌≡◌ {A = ℕ} 0 1 = cc in omega arith

  pub ok_so : (r : Result Step WalkError) → walks.told s k r ≡ step_on w s k → IsOk r
  ok_so (Ok x) e = refl
  ok_so (Err x) e = absurd (never_so _ _ e)

module _ (c : Camera) (w : Way) (s : List ℕ) where
  -- what was looked at leads on, or is the answer
  unfoldable pub Leads : Place → ControlFlow FrameStep Place → Type 0
  Leads k (Continue q) = (next c w s (place_at k) ≡ next c w s (place_at q)) × (k.at < q.at) × (k.at < end_on w s) × (q.since ≤ q.at)
  Leads k (Break f) = (from : Place) → told (place_at from) (Ok f) ≡ next c w s (place_at k)

  leads : (k : Place) → Leads k (looked_as c k (record_on c w s k.at))
  unfolding Leads looked_as said_as shown_as told state_of
  leads k = go (record_on c w s k.at) refl
    where
      shown-told : (from : Place) (q : ℕ) (t : Carried) (n : ℕ) (b : Shown) → told (place_at from) (Ok (shown_as (place q t) n b)) ≡ found (record { it = b; passed = n }) (cursor q t)
      shown-told from q t n (framed f) = refl
      shown-told from q t n (given v) = refl

      passes_on : (i : Item) (q : ℕ) (t : Carried) → record_on c w s k.at ≡ found i q → showing c (carried_by k) i ≡ passes t → t.since ≤ q
      passes_on i q t x y = omega (arith, record_goes c w s k.at i q x, since-goes c i (carried_by k), ap (λ (z : Said Carried (Passed Shown)). (state_of z).since) y)

      by_said : (i : Item) (q : ℕ) → record_on c w s k.at ≡ found i q → (x : Said Carried (Passed Shown)) → showing c (carried_by k) i ≡ x → Leads k (said_as q x)
      by_said i q b (tells x t) y =
          λ from. rw (next-given (showing c) (record_on c w s) (end_on w s) (record_moves c w s) (place_at k) i q x t b y) (shown-told from q t x.passed x.it)
      by_said i q b (passes t) y =
          let m = record_moves c w s k.at i q b in
          (next-passed (showing c) (record_on c w s) (end_on w s) (record_moves c w s) (place_at k) i q t b y, m.0, m.1, passes_on i q t b y)

      go : (t : Told Item) → record_on c w s k.at ≡ t → Leads k (looked_as c k t)
      go (found i q) x = by_said i q x (showing c (carried_by k) i) refl
      go (nothing q) x = λ from. rw (next_rests (showing c) (record_on c w s) (end_on w s) (record_moves c w s) (place_at k) q x)
      go (refused n q) x = absurd (record_never c w s k.at n q x)

  pub leads_by : (k : Place) (l : ControlFlow FrameStep Place) → l ≡ looked_as c k (record_on c w s k.at) → Leads k l
  leads_by k l x = rw x (leads k)
