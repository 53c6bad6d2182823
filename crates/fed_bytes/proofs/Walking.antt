-- Where the walk's step over the bytes of a piece leads is where they lead byte by byte. Assumes nothing.
use Prim.Native.Nat.{ℕ, zero, suc, ◌+◌, ◌-◌, ◌≤◌, ◌<◌}
use mathlib.Core.Path.{◌≡◌, refl, ◌∙◌}
use mathlib.Core.List.{List}
use mathlib.Core.Logic.{by_cases}
use native.Mathlib.Omega.{arith}
use native.Mathlib.Decide.{dec_lt}
use lib.ListN.{length}
use Rattle.steps.specs.Told.{ToldAt, found, nothing}
use Rattle.labels.specs.Label.{label_at}
use Rattle.lengths.proofs.Laws.{taken}
use Rattle.search.specs.Search.{search_from, key_begins, wait_from}
use Rattle.search.proofs.Found.{search_most}
use Rattle.klv.specs.declared.Klv.{Klv}
use Rattle.klv.specs.Item.{klv, past, Item}
use Rattle.walk.specs.declared.Turn.{Turn}
use Rattle.walk.specs.declared.Turn.TheVariants.{Stop, Search}
use Rattle.walk.specs.declared.Walked.{Walked}
use Rattle.walk.specs.declared.Walked.TheVariants.{Found, Stopped, Lost}
use Rattle.walk.specs.Rules.{rules}
use Rattle.walk.specs.Walk.{walked}
use Rattle.walk.proofs.Laws.{Rule, at-end, no_key, cut_off, no_length, whole, waits, late, rule}
use Rattle.walk.proofs.Walking.{up, walk_stop, walk_record, walk_on, walk_lost}
use Rattle.fed_states.specs.declared.State.{State}
use Rattle.fed_states.specs.State.{gone_on}
use Rattle.steps.specs.Passed.{Passed}
use Rattle.fed_bytes.specs.Feed.{Taken, took}
use Rattle.fed_bytes.specs.Fill.{kept_from}
use Rattle.fed_bytes.proofs.Keeping.{keeps_stopped, keeps_lost}
use Rattle.fed_bytes.proofs.Searching.{seeking, seek_key, seek_waits, seek_skips}
use Rattle.fed_bytes.proofs.Records.{telling, takes-none-length, takes_late, takes-value}

-- a record, so much further on
abbrev pub onward : ℕ → Klv → Klv
onward here k = record { at = here + k.at; value = here + k.value; len = k.len; size = k.size; shortest = k.shortest }

-- such a record of the bytes l, which come at the place `here`, n having been taken before
abbrev pub told_at : State → ℕ → List ℕ → ℕ → Klv → ToldAt Taken (Passed Item)
told_at st here l n k = found (telling st (onward here k) (label_at l k.at)) (took (gone_on st (here + past k) (label_at l k.at)) (n + past k))

module _ (st : State) (here : ℕ) (l : List ℕ) (n : ℕ) (fits : here + length l ≤ st.limit) where
  abbrev limit : ℕ
  limit = st.limit - here

  abbrev seeks : ℕ → ToldAt Taken (Passed Item)
  seeks q = seeking st here l n q

  -- nothing is told where the walk waits at w, and the bytes are kept
  abbrev keeps : ℕ → ToldAt Taken (Passed Item)
  keeps w = nothing (took (kept_from st here l w) (n + length l))

  -- Where the turns from p on lead
  pub data Leads (p : ℕ) : Walked → Type 0 where
    record_at : (k : Klv) → k.at + 17 ≤ length l → past k ≤ length l → k.value ≤ past k → seeks p ≡ told_at st here l n k → Leads p (Found k)
    stops_at : (q : ℕ) → q ≤ length l → seeks p ≡ seeks q → seeks q ≡ keeps q → Leads p (Stopped q)
    loses_at : (q : ℕ) → wait_from l q ≤ length l → seeks p ≡ seeks (wait_from l q) → seeks (wait_from l q) ≡ keeps (wait_from l q) → Leads p (Lost q)

  further : (p q : ℕ) (w : Walked) → seeks p ≡ seeks q → Leads q w → Leads p w
  further p q w e (record_at k a b c t) = record_at k a b c (e ∙ t)
  further p q w e (stops_at r a t u) = stops_at r a (e ∙ t) u
  further p q w e (loses_at r a t u) = loses_at r a (e ∙ t) u

  -- a search leads on from where it starts
  record Searches (p q : ℕ) : Type 0 where
    pub within : q ≤ length l
    pub same : seeks p ≡ seeks q

  on-turn : (k p : ℕ) → length l - p < suc k → p ≤ length l → ((q : ℕ) → length l - q < k → q ≤ length l → Leads q (walked limit l (length l) q))
      → (t : Turn) → rules limit l (length l) p ≡ t → Rule limit l (length l) p t → Leads p (walked limit l (length l) p)
  on-turn k p h b ih t e r = go t e r
    where
      stop : rules limit l (length l) p ≡ Stop → Rule limit l (length l) p Stop → Leads p (walked limit l (length l) p)
      stop x r = rw (walk_stop limit l (length l) p x) (stops_at p b refl (keeps_stopped st here l n fits p b Stop refl r))

      search : (q : ℕ) → rules limit l (length l) p ≡ Search q → Searches p q → Leads p (walked limit l (length l) p)
      search q x s =
          by_cases (dec_lt (search_from l (length l) q) (length l))
          (λ m. let u = up limit l (length l) p q x in
          rw (walk_on limit l (length l) p q x m)
          (further p (search_from l (length l) q) _ (s.same ∙ seek_key st here l n q s.within m) (ih (search_from l (length l) q) (omega arith) (omega arith))))
          (λ m. let w = search_most (key_begins l) (length l) q in
          let y = s.within in
          rw (walk_lost limit l (length l) p q x (omega arith)) (loses_at q (omega arith) (s.same ∙ seek_waits st here l n q s.within (omega arith)) (keeps_lost st here l n q s.within (omega arith) (omega arith))))

      go : (t : Turn) → rules limit l (length l) p ≡ t → Rule limit l (length l) p t → Leads p (walked limit l (length l) p)
      go t x (at-end m) = stop x (at-end m)
      go t x (no_key m y) = search (p + 1) x (record { within = omega arith; same = seek_skips st here l n p (omega arith) y })
      go t x (cut_off m y z) = stop x (cut_off m y z)
      go t x (no_length m y z) = search (p + 17) x (record { within = omega arith; same = takes-none-length st here l n p y (omega arith) (omega arith) z })
      go t x (whole m y f z o) =
          let g = taken l (p + 16) f z in
          let a : here + p + 16 + f.size ≡ here + (p + 16 + f.size) = omega arith in
          let c : here + p + 16 + f.size + f.value ≡ here + (p + 16 + f.size + f.value) = omega arith in
          rw (walk_record limit l (length l) p (klv 16 p f) x)
          (record_at (klv 16 p f) (omega arith) (omega (arith, g.there)) (omega arith)
          (takes-value st here l n p y (omega arith) (omega arith) f z (p + 16 + f.size) refl (omega (arith, g.there)) (omega (arith, g.there)) ∙ rw (c, a)))
      go t x (waits m y f z o w) = stop x (waits m y f z o w)
      go t x (late m y f z o w) =
          let g = taken l (p + 16) f z in
          search (p + 16 + f.size) x
          (record { within = g.there; same = takes_late st here l n p y (omega arith) (omega arith) f z (p + 16 + f.size) refl (omega arith) (omega arith) })

  leads_at-most : (k p : ℕ) → length l - p < k → p ≤ length l → Leads p (walked limit l (length l) p)
  leads_at-most zero p h b = absurd (omega arith)
  leads_at-most (suc k) p h b = on-turn k p h b (leads_at-most k) (rules limit l (length l) p) refl (rule limit l (length l) p)

  pub leads : (p : ℕ) → p ≤ length l → Leads p (walked limit l (length l) p)
  leads p b = leads_at-most (suc (length l - p)) p (omega arith) b
