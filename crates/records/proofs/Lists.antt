-- The lists of both walks go by the rules at a place, and a search is only moving on. Assumes nothing.
use Prim.Native.Nat.{ℕ, ◌+◌, ◌-◌, ◌≤◌, ◌<◌, max}
use mathlib.Core.Path.{◌≡◌, refl, sym, ap, ◌∙◌}
use mathlib.Core.List.{List, [], ◌∷◌}
use mathlib.Core.Bool.{Bool, true, false}
use mathlib.Core.Logic.{by_cases}
use native.Mathlib.Omega.{arith}
use native.Mathlib.Decide.{dec_lt}
use Rattle.steps.specs.Told.{Told, found, nothing}
use Rattle.steps.specs.Listed.{before, list_from}
use Rattle.steps.proofs.Laws.{Moves, listed}
use Rattle.labels.specs.Label.{key_at}
use Rattle.search.specs.Search.{search_from, wait_from}
use Rattle.search.proofs.Laws.{search_up, key_here, key-next}
use Rattle.klv.specs.declared.Klv.{Klv}
use Rattle.klv.specs.Item.{Item, item}
use Rattle.walk.specs.declared.Turn.TheVariants.{Stop, Search, Record}
use Rattle.walk.specs.declared.Walked.{Walked}
use Rattle.walk.specs.declared.Walked.TheVariants.{Found, Stopped, Lost}
use Rattle.walk.specs.Rules.{rules}
use Rattle.walk.specs.Walk.{walked, finished_after, arriving_after}
use Rattle.walk.proofs.Laws.{rule_end, rule_no_key}
use Rattle.walk.proofs.Walking.{walk_stop, walk_record, walk_on, walk_lost, walk-fits}

-- walking goes on no earlier than at the record's value
abbrev pub Onward : (Item → ℕ) → Type 0
Onward next = (i : Item) → i.klv.value ≤ next i

-- what a walk's step says by where its turns lead: a record and where walking goes on, or nothing
pub record Says (next : Item → ℕ) (s : List ℕ) (after : Walked → Told Item) : Type 0 where
  pub says-found : (k : Klv) → after (Found k) ≡ found (item 16 s k) (next (item 16 s k))
  pub says_stopped : (p : ℕ) → after (Stopped p) ≡ nothing p
  pub says_lost : (q : ℕ) → (w : ℕ) × (after (Lost q) ≡ nothing w)

-- a step hands back the place where walking goes on
pub found-next : (next : Item → ℕ) (s : List ℕ) (after : Walked → Told Item) → Says next s after → (w : Walked) (i : Item) (q : ℕ) → after w ≡ found i q → next i ≡ q
found-next next s after says (Found k) i q x =
    let y = says.says-found k in let e : item 16 s k ≡ i = cc in let f : next (item 16 s k) ≡ q = cc in sym (ap next e) ∙ f
found-next next s after says (Stopped p) i q x = let y = says.says_stopped p in absurd (let z : ◌≡◌ {A = ℕ} 0 1 = cc in omega arith)
found-next next s after says (Lost p) i q x = let y = (says.says_lost p).1 in absurd (let z : ◌≡◌ {A = ℕ} 0 1 = cc in omega arith)

module _ (next : Item → ℕ) (on : Onward next) (limit : ℕ) (s : List ℕ) (e : ℕ) (after : Walked → Told Item) (says : Says next s after) where
  abbrev step : ℕ → Told Item
  step p = after (walked limit s e p)

  abbrev list : ℕ → List Item
  list p = list_from step e p

  pub moves : Moves step e
  moves p i q x = go (walked limit s e p) refl x
    where
      go : (w : Walked) → walked limit s e p ≡ w → after w ≡ found i q → (p < q) × (p < e)
      go (Found k) w x =
          let f = walk-fits limit s e p k w in
          let y = says.says-found k in
          let z : next (item 16 s k) ≡ q = cc in
          omega (arith, on (item 16 s k), f.0, f.1)
      go (Stopped r) w x = let y = says.says_stopped r in absurd (let z : ◌≡◌ {A = ℕ} 0 1 = cc in omega arith)
      go (Lost r) w x = let y = says.says_lost r in let v = y.1 in absurd (let z : ◌≡◌ {A = ℕ} 0 1 = cc in omega arith)

  by_step : (p : ℕ) → list p ≡ before list (step p)
  by_step p = listed step e moves p

  -- two places whose turns lead to the same
  pub same-walk : (p q : ℕ) → walked limit s e p ≡ walked limit s e q → list p ≡ list q
  same-walk p q w = by_step p ∙ ap (λ (x : Walked). before list (after x)) w ∙ sym (by_step q)

  pub list_stopped : (p q : ℕ) → walked limit s e p ≡ Stopped q → list p ≡ []
  unfolding before
  list_stopped p q w = by_step p ∙ rw (w, says.says_stopped q)

  pub list-walked : (p : ℕ) (k : Klv) → walked limit s e p ≡ Found k → list p ≡ item 16 s k ∷ list (next (item 16 s k))
  unfolding before
  list-walked p k w = by_step p ∙ rw (w, says.says-found k)

  pub list_lost : (p q : ℕ) → walked limit s e p ≡ Lost q → list p ≡ []
  unfolding before
  list_lost p q w = by_step p ∙ rw (w, (says.says_lost q).1)

  module _ (p : ℕ) where
    pub list_stop : rules limit s e p ≡ Stop → list p ≡ []
    list_stop t = list_stopped p p (walk_stop limit s e p t)

    pub list_record : (k : Klv) → rules limit s e p ≡ Record k → list p ≡ item 16 s k ∷ list (next (item 16 s k))
    list_record k t = list-walked p k (walk_record limit s e p k t)

  -- fewer than 17 bytes are left
  pub list-short : (p : ℕ) → e - p < 17 → list p ≡ []
  list-short p h = list_stop p (rule_end limit s e p h)

  list_seek : (p q : ℕ) → rules limit s e p ≡ Search q → list p ≡ list (search_from s e q)
  list_seek p q t =
      by_cases (dec_lt (search_from s e q) e)
      (λ h. same-walk p (search_from s e q) (walk_on limit s e p q t h))
      (λ h. list_lost p q (walk_lost limit s e p q t (omega arith)) ∙ sym (list-short (search_from s e q) (omega arith)))

  -- a search is only moving on
  list-found : (q : ℕ) → list q ≡ list (search_from s e q)
  list-found q =
      by_cases (dec_lt (e - q) 17)
      (λ h. list-short q h ∙ sym (list-short (search_from s e q) (omega (arith, search_up s e q))))
      (λ h. go (omega arith) (key_at s q) refl)
    where
      go : 17 ≤ e - q → (b : Bool) → key_at s q ≡ b → list q ≡ list (search_from s e q)
      go h true k = ap list (key_here s e q (omega arith) k)
      go h false k = list_seek q (q + 1) (rule_no_key limit s e q h k) ∙ ap list (key-next s e q (omega arith) k)

  pub list_search : (p q : ℕ) → rules limit s e p ≡ Search q → list p ≡ list q
  list_search p q t = list_seek p q t ∙ sym (list-found q)

  -- and passes a place where no key starts
  pub list-next : (p : ℕ) → key_at s p ≡ false → list p ≡ list (p + 1)
  list-next p k =
      by_cases (dec_lt (e - p) 17)
      (λ h. list-short p h ∙ sym (list-short (p + 1) (omega arith)))
      (λ h. list_search p (p + 1) (rule_no_key limit s e p (omega arith) k))

-- The finished and the arriving walk say so

pub finished-says : (next : Item → ℕ) (s : List ℕ) (e : ℕ) → Says next s (finished_after next s e)
unfolding finished_after
finished-says next s e = record { says-found = λ k. refl; says_stopped = λ p. refl; says_lost = λ q. (max e q, refl) }

pub arriving-says : (next : Item → ℕ) (a : List ℕ) → Says next a (arriving_after next a)
unfolding arriving_after
arriving-says next a = record { says-found = λ k. refl; says_stopped = λ p. refl; says_lost = λ q. (wait_from a q, refl) }
