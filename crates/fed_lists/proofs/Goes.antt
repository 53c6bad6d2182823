-- Three lists that go by the rules at a place, and that a search is only moving on for each. Assumes nothing.
use Prim.Native.Nat.{ℕ, zero, suc, ◌+◌, ◌-◌, ◌≤◌, ◌<◌}
use mathlib.Core.Path.{◌≡◌, refl, sym, ap, ◌∙◌}
use mathlib.Core.List.{List, [], ◌∷◌, ◌++◌}
use mathlib.Core.Bool.{Bool, true, false}
use mathlib.Core.Logic.{by_cases}
use native.Mathlib.Omega.{arith}
use native.Mathlib.Decide.{dec_lt}
use borrow.Author.Tests.{lt-ltb}
use lib.ListN.{length, drop, length-drop}
use Rattle.steps.specs.Listed.{before, onward, end_from}
use Rattle.steps.proofs.Laws.{listed, ended}
use Rattle.labels.specs.Label.{key_at, key_start}
use Rattle.search.specs.Search.{search_from, key_begins, wait_from}
use Rattle.search.proofs.Laws.{search_up, below_up, key_here, key-next}
use Rattle.search.proofs.Found.{search_holds}
use Rattle.klv.specs.declared.Klv.{Klv}
use Rattle.klv.specs.Item.{Item, item}
use Rattle.walk.specs.declared.Turn.TheVariants.{Stop, Search, Record}
use Rattle.walk.specs.declared.Walked.{Walked}
use Rattle.walk.specs.declared.Walked.TheVariants.{Found, Stopped, Lost}
use Rattle.walk.specs.Rules.{rules}
use Rattle.walk.specs.Walk.{walked, arriving_after, arriving_by}
use Rattle.walk.proofs.Laws.{rule_end, rule_no_key}
use Rattle.walk.proofs.Walking.{walk_stop, walk_record, walk_on, walk_lost}
use Rattle.records.specs.Records.{finished_list_by, arriving_list_by}
use Rattle.records.proofs.Lists as lists
use Rattle.records.proofs.Lists.{Onward, arriving-says}
use Rattle.certain.proofs.Held.{fin_stop, fin_search, fin_record, arr_stop, arr_search, arr_record}
use Rattle.parts.specs.Answer.{Answer, is, none}
use Rattle.fed_bytes.proofs.Keys.{begins-short}
use Rattle.fed_lists.specs.Run.{awaited}

-- Three lists: the arriving one, the same with the record whose value it waits for, and the finished one
pub data Which : Type 0 where
  arrives : Which
  expects : Which
  finishes : Which

-- and the limit by which its rules go
pub limit_of : Which → ℕ → ℕ
limit_of arrives limit = limit
limit_of expects limit = limit
limit_of finishes limit = 0

pub limit_most : (w : Which) (limit : ℕ) → limit_of w limit ≤ limit
unfolding limit_of
limit_most arrives limit = omega arith
limit_most expects limit = omega arith
limit_most finishes limit = omega arith

-- the record of a value that is waited for, as a list
unfoldable pub asked : List ℕ → Answer Klv → List Item
asked a (is k) = item 16 a k ∷ []
asked a none = []

abbrev wanted : ℕ → List ℕ → ℕ → List Item
wanted limit a w = asked a (awaited limit a w)

-- none is waited for near the end, and a search in vain waits near the end
pub awaited-short : (limit : ℕ) (a : List ℕ) (w : ℕ) → length a - w < 17 → awaited limit a w ≡ none
unfolding awaited
awaited-short limit a w h = simp (lt-ltb _ _ h)

wanted_short : (limit : ℕ) (a : List ℕ) (w : ℕ) → length a - w < 17 → wanted limit a w ≡ []
unfolding asked
wanted_short limit a w h = ap (asked a) (awaited-short limit a w h)

near : (a : List ℕ) (q : ℕ) → length a - wait_from a q < 17
unfolding key_begins
near a q =
    by_cases (dec_lt (wait_from a q) (length a))
    (λ h. let u = below_up (key_begins a) (length a) q in
    let b = search_holds (key_begins a) (length a) q (omega arith) h in
    omega (arith, begins-short (drop (wait_from a q) a) key_start b, length-drop (wait_from a q) a))
    (λ h. omega arith)

-- `next` is where walking goes on after a record

module _ (next : Item → ℕ) (on : Onward next) where
  -- where the arriving walk from p on waits
  abbrev pub waits_from : ℕ → List ℕ → ℕ → ℕ
  waits_from limit a p = end_from (arriving_by next limit a) (length a) p

  abbrev pub expected_from : ℕ → List ℕ → ℕ → List Item
  expected_from limit a p = arriving_list_by next limit a p ++ wanted limit a (waits_from limit a p)

  pub list_of : Which → ℕ → List ℕ → ℕ → List Item
  list_of arrives limit a p = arriving_list_by next limit a p
  list_of expects limit a p = expected_from limit a p
  list_of finishes limit a p = finished_list_by next a (length a) p

  -- The arriving list with the record that is waited for goes by where the turns lead

  module _ (limit : ℕ) (a : List ℕ) where
    expected_by : Walked → List Item
    expected_by w = before (arriving_list_by next limit a) (arriving_after next a w) ++ wanted limit a (onward (waits_from limit a) (arriving_after next a w))

    expected_so : (p : ℕ) → expected_from limit a p ≡ expected_by (walked limit a (length a) p)
    unfolding arriving_by expected_by
    expected_so p =
        let moves = lists.moves next on limit a (length a) (arriving_after next a) (arriving-says next a) in
        rw (
          listed (λ q. arriving_after next a (walked limit a (length a) q)) (length a) moves p,
          ended (λ q. arriving_after next a (walked limit a (length a) q)) (length a) moves p,
        )

    expected_walk : (p : ℕ) (w : Walked) → walked limit a (length a) p ≡ w → expected_from limit a p ≡ expected_by w
    expected_walk p w x = expected_so p ∙ ap expected_by x

    pub waits_stopped : (p : ℕ) → rules limit a (length a) p ≡ Stop → expected_from limit a p ≡ wanted limit a p
    unfolding expected_by before onward arriving_after
    waits_stopped p t = expected_walk p (Stopped p) (walk_stop limit a (length a) p t)

    expected_short : (p : ℕ) → length a - p < 17 → expected_from limit a p ≡ []
    expected_short p h = waits_stopped p (rule_end limit a (length a) p h) ∙ wanted_short limit a p h

    expected_record : (p : ℕ) (k : Klv) → rules limit a (length a) p ≡ Record k → expected_from limit a p ≡ item 16 a k ∷ expected_from limit a (next (item 16 a k))
    unfolding expected_by before onward arriving_after
    expected_record p k t = expected_walk p (Found k) (walk_record limit a (length a) p k t)

    expected_lost : (p q : ℕ) → walked limit a (length a) p ≡ Lost q → expected_from limit a p ≡ []
    unfolding expected_by before onward arriving_after
    expected_lost p q w = expected_walk p (Lost q) w ∙ wanted_short limit a (wait_from a q) (near a q)

    expected_seek : (p q : ℕ) → rules limit a (length a) p ≡ Search q → expected_from limit a p ≡ expected_from limit a (search_from a (length a) q)
    expected_seek p q t =
        by_cases (dec_lt (search_from a (length a) q) (length a))
        (λ h. expected_walk p (walked limit a (length a) (search_from a (length a) q)) (walk_on limit a (length a) p q t h) ∙ sym (expected_so (search_from a (length a) q)))
        (λ h. expected_lost p q (walk_lost limit a (length a) p q t (omega arith)) ∙ sym (expected_short (search_from a (length a) q) (omega arith)))

    expected_found : (q : ℕ) → expected_from limit a q ≡ expected_from limit a (search_from a (length a) q)
    expected_found q =
        by_cases (dec_lt (length a - q) 17)
        (λ h. expected_short q h ∙ sym (expected_short (search_from a (length a) q) (omega (arith, search_up a (length a) q))))
        (λ h. go (omega arith) (key_at a q) refl)
      where
        go : 17 ≤ length a - q → (b : Bool) → key_at a q ≡ b → expected_from limit a q ≡ expected_from limit a (search_from a (length a) q)
        go h true k = ap (expected_from limit a) (key_here a (length a) q (omega arith) k)
        go h false k = expected_seek q (q + 1) (rule_no_key limit a (length a) q h k) ∙ ap (expected_from limit a) (key-next a (length a) q (omega arith) k)

    expected_search : (p q : ℕ) → rules limit a (length a) p ≡ Search q → expected_from limit a p ≡ expected_from limit a q
    expected_search p q t = expected_seek p q t ∙ sym (expected_found q)

  -- The three lists

  module _ (limit : ℕ) (a : List ℕ) where
    pub is-arriving : (p : ℕ) → list_of arrives limit a p ≡ arriving_list_by next limit a p
    unfolding list_of
    is-arriving p = refl

    pub is-finished : (p : ℕ) → list_of finishes limit a p ≡ finished_list_by next a (length a) p
    unfolding list_of
    is-finished p = refl

    pub is_expected : (p : ℕ) → list_of expects limit a p ≡ expected_from limit a p
    unfolding list_of
    is_expected p = refl

    l_short : (w : Which) (p : ℕ) → length a - p < 17 → list_of w limit a p ≡ []
    unfolding list_of
    l_short arrives p h = arr_stop next on limit a p (rule_end limit a (length a) p h)
    l_short expects p h = expected_short limit a p h
    l_short finishes p h = fin_stop next on a p (rule_end 0 a (length a) p h)

    pub l_record : (w : Which) (p : ℕ) (k : Klv) → rules (limit_of w limit) a (length a) p ≡ Record k → list_of w limit a p ≡ item 16 a k ∷ list_of w limit a (next (item 16 a k))
    unfolding list_of limit_of
    l_record arrives p k t = arr_record next on limit a p k t
    l_record expects p k t = expected_record limit a p k t
    l_record finishes p k t = fin_record next on a p k t

    pub l_goes : (w : Which) (p q : ℕ) → rules (limit_of w limit) a (length a) p ≡ Search q → list_of w limit a p ≡ list_of w limit a q
    unfolding list_of limit_of
    l_goes arrives p q t = arr_search next on limit a p q t
    l_goes expects p q t = expected_search limit a p q t
    l_goes finishes p q t = fin_search next on a p q t

    module _ (w : Which) where
      -- a place where no key starts is passed
      pub l_skip : (p : ℕ) → key_at a p ≡ false → list_of w limit a p ≡ list_of w limit a (p + 1)
      l_skip p k =
          by_cases (dec_lt (length a - p) 17) (λ h. l_short w p h ∙ sym (l_short w (p + 1) (omega arith)))
          (λ h. l_goes w p (p + 1) (rule_no_key (limit_of w limit) a (length a) p (omega arith) k))

      pub l_skips : (n p : ℕ) → ((j : ℕ) → j < n → key_at a (p + j) ≡ false) → list_of w limit a p ≡ list_of w limit a (p + n)
      l_skips zero p h = let e : p ≡ p + 0 = omega arith in ap (list_of w limit a) e
      l_skips (suc n) p h =
          l_skips n p (λ j k. h j (omega arith)) ∙ l_skip (p + n) (h n (omega arith))
          ∙ (let e : p + n + 1 ≡ p + suc n = omega arith in ap (list_of w limit a) e)
