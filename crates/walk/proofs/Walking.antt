-- The walk goes turn by turn: the fuel of `specs/Walk.antt` is enough. Assumes nothing.
use Prim.Native.Nat.{ℕ, zero, suc, ◌-◌, ◌≤◌, ◌<◌}
use mathlib.Core.Path.{◌≡◌, refl, sym, ap, ◌∙◌}
use mathlib.Core.List.{List}
use mathlib.Core.Logic.{by_cases}
use native.Mathlib.Omega.{arith}
use native.Mathlib.Decide.{dec_lt}
use borrow.Author.Tests.{le-ltb, lt-ltb}
use Rattle.steps.proofs.Laws as laws
use Rattle.search.specs.Search.{search_from}
use Rattle.search.proofs.Laws.{search_up}
use Rattle.klv.specs.declared.Klv.{Klv}
use Rattle.walk.specs.declared.Turn.{Turn}
use Rattle.walk.specs.declared.Turn.TheVariants.{Stop, Search, Record}
use Rattle.walk.specs.declared.Walked.{Walked}
use Rattle.walk.specs.declared.Walked.TheVariants.{Found, Stopped, Lost}
use Rattle.walk.specs.Rules.{rules}
use Rattle.walk.specs.Walk.{on_turn, turns_at_most, walked}
use Rattle.walk.proofs.Laws.{rules_moves, rules_record, Fit}

module _ (s : List ℕ) (e : ℕ) where
  pub turn_found : (again : ℕ → Walked) (p q : ℕ) → search_from s e q < e → on_turn again s e p (Search q) ≡ again (search_from s e q)
  unfolding on_turn
  turn_found again p q h = simp (lt-ltb _ _ h)

  pub turn_lost : (again : ℕ → Walked) (p q : ℕ) → e ≤ search_from s e q → on_turn again s e p (Search q) ≡ Lost q
  unfolding on_turn
  turn_lost again p q h = simp (le-ltb _ _ h)

module _ (limit : ℕ) (s : List ℕ) (e : ℕ) where
  -- a search goes up from the place that asks for it
  pub up : (p q : ℕ) → rules limit s e p ≡ Search q → (p < search_from s e q) × (p < e)
  up p q x = omega (arith, rules_moves limit s e p q x, search_up s e q)

  turn_same : (f g : ℕ → Walked) (p : ℕ) → ((q : ℕ) → e - q < e - p → f q ≡ g q) → on_turn f s e p (rules limit s e p) ≡ on_turn g s e p (rules limit s e p)
  unfolding on_turn
  turn_same f g p h = go (rules limit s e p) refl
    where
      go : (t : Turn) → rules limit s e p ≡ t → on_turn f s e p t ≡ on_turn g s e p t
      go Stop t = refl
      go (Search q) t =
          by_cases (dec_lt (search_from s e q) e)
          (λ l. let m = up p q t in turn_found s e f p q l ∙ h (search_from s e q) (omega arith) ∙ sym (turn_found s e g p q l))
          (λ l. turn_lost s e f p q (omega arith) ∙ sym (turn_lost s e g p q (omega arith)))
      go (Record k) t = refl

  pub turn_by_turn : (p : ℕ) → walked limit s e p ≡ on_turn (walked limit s e) s e p (rules limit s e p)
  unfolding turns_at_most walked
  turn_by_turn = laws.turn_by_turn (turns_at_most limit s e) (λ again p. on_turn again s e p (rules limit s e p)) (λ fuel p. refl) (λ p. e - p) turn_same

  module _ (p : ℕ) where
    pub walk_stop : rules limit s e p ≡ Stop → walked limit s e p ≡ Stopped p
    unfolding on_turn
    walk_stop t = turn_by_turn p ∙ simp t

    pub walk_record : (k : Klv) → rules limit s e p ≡ Record k → walked limit s e p ≡ Found k
    unfolding on_turn
    walk_record k t = turn_by_turn p ∙ simp t

    -- a search leads on whatever place asks for it
    pub walk_search : (r q : ℕ) → rules limit s e p ≡ Search q → walked limit s e p ≡ on_turn (walked limit s e) s e r (Search q)
    unfolding on_turn
    walk_search r q t = turn_by_turn p ∙ simp t

    module _ (q : ℕ) (t : rules limit s e p ≡ Search q) where
      pub walk_on : search_from s e q < e → walked limit s e p ≡ walked limit s e (search_from s e q)
      walk_on l = turn_by_turn p ∙ ap (on_turn (walked limit s e) s e p) t ∙ turn_found s e (walked limit s e) p q l

      pub walk_lost : e ≤ search_from s e q → walked limit s e p ≡ Lost q
      walk_lost l = turn_by_turn p ∙ ap (on_turn (walked limit s e) s e p) t ∙ turn_lost s e (walked limit s e) p q l

  -- a record that is found is the rules' at a place from p on
  found_from : (fuel p : ℕ) (k : Klv) → turns_at_most limit s e fuel p ≡ Found k → (q : ℕ) × (p ≤ q) × (rules limit s e q ≡ Record k)
  unfolding turns_at_most on_turn
  found_from zero p k x = absurd (let z : ◌≡◌ {A = ℕ} 0 1 = cc in omega arith)
  found_from (suc fuel) p k x = go (rules limit s e p) refl x (λ m. found_from fuel m k)
    where
      go : (t : Turn) → rules limit s e p ≡ t → on_turn (turns_at_most limit s e fuel) s e p t ≡ Found k
          → ((m : ℕ) → turns_at_most limit s e fuel m ≡ Found k → (q : ℕ) × (m ≤ q) × (rules limit s e q ≡ Record k))
          → (q : ℕ) × (p ≤ q) × (rules limit s e q ≡ Record k)
      go Stop t x ih = absurd (let z : ◌≡◌ {A = ℕ} 0 1 = cc in omega arith)
      go (Record w) t x ih = (p, omega arith, cc)
      go (Search r) t x ih =
          by_cases (dec_lt (search_from s e r) e)
          (λ l. let i = ih (search_from s e r) (sym (turn_found s e (turns_at_most limit s e fuel) p r l) ∙ x) in
          (i.0, omega (arith, up p r t), i.2))
          (λ l. let m = turn_lost s e (turns_at_most limit s e fuel) p r (omega arith) in
          absurd (let z : ◌≡◌ {A = ℕ} 0 1 = cc in omega arith))

  -- so it starts at p or behind it, and its value lies in the buffer
  pub walk-fits : (p : ℕ) (k : Klv) → walked limit s e p ≡ Found k → (p ≤ k.at) × Fit s e k.at k
  unfolding walked
  walk-fits p k x =
      let f = found_from (suc (e - p)) p k x in
      let fit = rules_record limit s e f.0 k f.2 in
      (omega arith, record { here = refl; before = omega arith; start = omega arith; field = fit.field; there = fit.there; within = fit.within })
