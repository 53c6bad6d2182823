-- The longest list: where the walk waits, two files that both start with what has arrived have nothing in common from
-- there on that could be told. Assumes nothing.
use Prim.Native.Nat.{ℕ, zero, suc, ◌+◌, ◌-◌, ◌≤◌, ◌<◌}
use mathlib.Core.Path.{◌≡◌, refl, sym, ap, ◌∙◌}
use mathlib.Core.List.{List, [], ◌∷◌, ◌++◌, append-nil, head-eq_of_cons-eq, tail-eq_of_cons-eq}
use mathlib.Core.Bool.{true}
use mathlib.Core.Logic.{by_cases}
use native.Mathlib.Omega.{arith}
use native.Mathlib.Decide.{dec_lt}
use lib.ListN.{length, get_or, length-append, replicate, length-replicate, get_or-replicate, get_or-eq_default, get_or-append}
use lib.Seq.{get_or-append-add}
use Rattle.parts.specs.Bytes.{Bytes}
use Rattle.steps.specs.Tells.{Said, tells, passes, told_from, state_after}
use Rattle.steps.specs.Next.{Cursor}
use Rattle.steps.proofs.Tells.{told_none, told-next, told-passed, told-append}
use Rattle.klv.specs.declared.Klv.{Klv}
use Rattle.klv.specs.Item.{Item, item, klv, past}
use Rattle.walk.specs.declared.Turn.{Turn}
use Rattle.walk.specs.declared.Turn.TheVariants.{Stop, Search, Record}
use Rattle.walk.specs.Rules.{rules}
use Rattle.walk.proofs.Laws.{rules_moves, rules_record, rule_end, rule_cut, rule_record, rule_late, Rule, at-end, no_key, cut_off, no_length, whole, waits, late, rule}
use Rattle.records.specs.Records.{finished_list_by, arriving_list_by, finished_told, arriving_told}
use Rattle.records.proofs.Lists.{Onward}
use Rattle.certain.specs.Certain.{File, Begins, BeginsAll, Longest}
use Rattle.certain.proofs.Kept.{key-kept, length-kept}
use Rattle.certain.proofs.Held.{fin_stop, fin_search, fin_record, Held, held}

-- Two lists whose first elements differ have nothing in common past what both begin with

abbrev Apart : {A : Type 0} → List A → List A → Type 0
Apart {A} f g = (i : A) (r t : List A) → f ≡ i ∷ r → g ≡ i ∷ t → ⊥

common : {A : Type 0} (m l f g : List A) → Begins m (l ++ f) → Begins m (l ++ g) → Apart f g → Begins m l
common [] l f g b c d = (l, refl)
common (i ∷ m) [] f g b c d = absurd (d i (m ++ b.0) (m ++ c.0) (sym b.1) (sym c.1))
common (i ∷ m) (j ∷ l) f g b c d =
    let r = common m l f g (b.0, tail-eq_of_cons-eq b.1) (c.0, tail-eq_of_cons-eq c.1) d in
    (r.0, let h = head-eq_of_cons-eq b.1 in let u = r.1 in cc)

-- bytes of zeros, as many as are missing
abbrev blank : ℕ → List ℕ
blank k = replicate k 0

zeros : (k i : ℕ) → get_or (blank k) i 0 < 256
zeros k i =
    by_cases (dec_lt i k) (λ h. rw (get_or-replicate {A = ℕ} k i 0 0 h) (omega arith))
    (λ h. rw (get_or-eq_default (blank k) 0 {n = i} (simp length-replicate (omega arith))) (omega arith))

bytes_after : (a x : List ℕ) → Bytes a → Bytes x → Bytes (a ++ x)
bytes_after a x b c i =
    by_cases (dec_lt i (length a))
    (λ h. rw (get_or-append a x 0 i h) (b i))
    (λ h. let e : i ≡ length a + (i - length a) = omega arith in rw e (rw (get_or-append-add a x (i - length a) 0) (c (i - length a))))

-- What a list may tell of a walk's records so that demand 3 holds of it: what is told has its record's place, and a record
-- of which nothing is told is stepped
pub record Teller {S B : Type 0} (next : Item → ℕ) (say : S → Item → Said S B) : Type 0 where
  pub on : Onward next
  pub place : B → ℕ
  pub placed : (s : S) (i : Item) (b : B) (t : S) → say s i ≡ tells b t → place b ≡ i.klv.at
  pub steps : (s : S) (i : Item) (t : S) → say s i ≡ passes t → next i ≡ past i.klv

module _ {S B : Type 0} (next : Item → ℕ) (say : S → Item → Said S B) (teller : Teller next say) where
  abbrev told : S → List ℕ → ℕ → List B
  told s f p = told_from say s (finished_list_by next f (length f) p)

  -- What is told of a finished list from p on has nothing that starts before p

  data From (p : ℕ) (l : List B) : Type 0 where
    none_left : l ≡ [] → From p l
    starts : (b : B) (r : List B) → l ≡ b ∷ r → p ≤ teller.place b → From p l

  told-from : (f : List ℕ) (k p : ℕ) (s : S) → length f - p < k → From p (told s f p)
  told-from f zero p s h = absurd (omega arith)
  told-from f (suc k) p s h = go (rules 0 f (length f) p) refl (told-from f k)
    where
      later : (q : ℕ) (t : S) → p ≤ q → told s f p ≡ told t f q → From q (told t f q) → From p (told s f p)
      later q t m e (none_left z) = none_left (e ∙ z)
      later q t m e (starts b r z u) = starts b r (e ∙ z) (omega arith)

      by_said : (r : Klv) → rules 0 f (length f) p ≡ Record r → (x : Said S B) → say s (item 16 f r) ≡ x
          → ((q : ℕ) (t : S) → length f - q < k → From q (told t f q)) → From p (told s f p)
      by_said r t (tells b u) x ih =
          starts b (told u f (next (item 16 f r)))
          (ap (told_from say s) (fin_record next teller.on f p r t) ∙ told-next say s (item 16 f r) (finished_list_by next f (length f) (next (item 16 f r))) b u x)
          (omega (arith, rules_record 0 f (length f) p r t, teller.placed s (item 16 f r) b u x))
      by_said r t (passes u) x ih =
          let g = rules_record 0 f (length f) p r t in
          let n = teller.on (item 16 f r) in
          later (next (item 16 f r)) u (omega arith)
          (ap (told_from say s) (fin_record next teller.on f p r t) ∙ told-passed say s (item 16 f r) (finished_list_by next f (length f) (next (item 16 f r))) u x)
          (ih (next (item 16 f r)) u (omega arith))

      go : (t : Turn) → rules 0 f (length f) p ≡ t → ((q : ℕ) (t : S) → length f - q < k → From q (told t f q)) → From p (told s f p)
      go Stop t ih = none_left (ap (told_from say s) (fin_stop next teller.on f p t) ∙ told_none say s)
      go (Search q) t ih =
          let m = rules_moves 0 f (length f) p q t in
          later q s (omega arith) (ap (told_from say s) (fin_search next teller.on f p q t)) (ih q s (omega arith))
      go (Record r) t ih = by_said r t (say s (item 16 f r)) refl ih

  -- What is told of a itself from the place of waiting on, in any state: nothing, or, where a value is waited for, nothing
  -- that starts there; a file that has just that value tells of it, or of nothing more

  module _ (limit : ℕ) (a : List ℕ) (fits : length a ≤ limit) where
    data Close (s : S) (w : ℕ) : Type 0 where
      shut : told s a w ≡ [] → Close s w
      open_at : (x : List ℕ) → Bytes x → length (a ++ x) ≤ limit → Apart (told s a w) (told s (a ++ x) w) → Close s w

    apart : (s : S) (w v : ℕ) (k : Klv) (x : List ℕ) → k.at ≡ w → w < v → past k ≡ length (a ++ x) → rules 0 a (length a) w ≡ Search v
        → rules 0 (a ++ x) (length (a ++ x)) w ≡ Record k → Apart (told s a w) (told s (a ++ x) w)
    apart s w v k x l h n y t b r u e f = by_said (say s (item 16 (a ++ x) k)) refl
      where
        behind : List Item
        behind = finished_list_by next (a ++ x) (length (a ++ x)) (next (item 16 (a ++ x) k))

        searched : told s a w ≡ told s a v
        searched = ap (told_from say s) (fin_search next teller.on a w v y)

        recorded : told s (a ++ x) w ≡ told_from say s (item 16 (a ++ x) k ∷ behind)
        recorded = ap (told_from say s) (fin_record next teller.on (a ++ x) w k t)

        by_said : (z : Said S B) → say s (item 16 (a ++ x) k) ≡ z → ⊥
        by_said (passes o) z =
            let end = rule_end 0 (a ++ x) (length (a ++ x)) (next (item 16 (a ++ x) k)) (omega (arith, teller.steps s (item 16 (a ++ x) k) o z)) in
            let none : told s (a ++ x) w ≡ [] =
            recorded ∙ told-passed say s (item 16 (a ++ x) k) behind o z
            ∙ ap (told_from say o) (fin_stop next teller.on (a ++ x) (next (item 16 (a ++ x) k)) end) ∙ told_none say o in
            let j : ◌≡◌ {A = ℕ} 0 1 = cc in omega arith
        by_said (tells c o) z = go (told-from a (suc (length a - v)) v s (omega arith))
          where
            at_w : teller.place b ≡ w
            at_w =
                let g : told s (a ++ x) w ≡ c ∷ told_from say o behind = recorded ∙ told-next say s (item 16 (a ++ x) k) behind c o z in
                let j : c ≡ b = cc in
                ap teller.place (sym j) ∙ teller.placed s (item 16 (a ++ x) k) c o z ∙ l

            go : From v (told s a v) → ⊥
            go (none_left i) = let g = searched in let j : ◌≡◌ {A = ℕ} 0 1 = cc in omega arith
            go (starts d q i m) = let g = searched in let j : d ≡ b = cc in omega (arith, ap teller.place j, at_w)

    close : (s : S) (w : ℕ) → rules limit a (length a) w ≡ Stop → Close s w
    close s w t = go (rules limit a (length a) w) (rule limit a (length a) w) t
      where
        none : rules 0 a (length a) w ≡ Stop → Close s w
        none e = shut (ap (told_from say s) (fin_stop next teller.on a w e) ∙ told_none say s)

        go : (u : Turn) → Rule limit a (length a) w u → u ≡ Stop → Close s w
        go u (at-end h) e = none (rule_end 0 a (length a) w h)
        go u (no_key h k) e = absurd (let z : ◌≡◌ {A = ℕ} 0 1 = cc in omega arith)
        go u (cut_off h k l) e = none (rule_cut 0 a (length a) w h k l)
        go u (no_length h k l) e = absurd (let z : ◌≡◌ {A = ℕ} 0 1 = cc in omega arith)
        go u (whole h k g l f) e = absurd (let z : ◌≡◌ {A = ℕ} 0 1 = cc in omega arith)
        go u (late h k g l f m) e = absurd (let z : ◌≡◌ {A = ℕ} 0 1 = cc in omega arith)
        go u (waits h k g l f m) e =
            let v = w + 16 + g.size in
            let n = g.value in
            let x = blank (v + n - length a) in
            let lx : length x ≡ v + n - length a = simp length-replicate in
            let lb : length (a ++ x) ≡ v + n = length-append a x ∙ omega arith in
            open_at x (zeros (v + n - length a)) (omega arith)
            (apart s w v (klv 16 w g) x refl (omega arith) (sym lb) (rule_late 0 a (length a) w h k g l f (omega arith))
            (rule_record 0 (a ++ x) (length (a ++ x)) w (omega arith) (key-kept a x w true (omega arith) k) g (length-kept a x (w + 16) g l) (omega arith)))

    -- Demand 3, whatever is told, from any cursor

    module _ (k : Cursor S) (bytes : Bytes a) where
      abbrev listed : List ℕ → List B
      listed f = finished_told next say f (length f) k

      abbrev sure : List B
      sure = arriving_told next say limit a k

      i : Held next teller.on limit a k.at
      i = held next teller.on limit a k.at

      -- what is left, from where the walk waits and the state there, which depend on the bytes that have arrived alone
      abbrev rest : List ℕ → List B
      rest f = told (state_after say k.carried (arriving_list_by next limit a k.at)) f i.w

      rest_so : (x : List ℕ) → length (a ++ x) ≤ limit → sure ++ rest (a ++ x) ≡ listed (a ++ x)
      rest_so x h =
          sym (told-append say k.carried (arriving_list_by next limit a k.at) (finished_list_by next (a ++ x) (length (a ++ x)) i.w))
          ∙ ap (told_from say k.carried) (i.rest x h)

      rest-of : (m : List B) → BeginsAll listed limit a m → (x : List ℕ) → Bytes x → length (a ++ x) ≤ limit → Begins m (sure ++ rest (a ++ x))
      rest-of m all x b h = rw (rest_so x h) (all (a ++ x) (record { rest = x; starts = refl; bytes = bytes_after a x bytes b; within = h }))

      own : (m : List B) → BeginsAll listed limit a m → Begins m (sure ++ rest a)
      own m all = rw append-nil at (rest-of m all [] (λ j. omega arith) (rw append-nil fits))

      none-longer : (m : List B) → BeginsAll listed limit a m → Close (state_after say k.carried (arriving_list_by next limit a k.at)) i.w → Begins m sure
      none-longer m all (shut z) = rw append-nil at (rw z at (own m all))
      none-longer m all (open_at x b f d) = common m sure (rest a) (rest (a ++ x)) (own m all) (rest-of m all x b f) d

      begins_in : (f : List ℕ) → File limit a f → Begins sure (listed f)
      begins_in f file =
          let h : length (a ++ file.rest) ≤ limit = rw file.starts at file.within in
          rw file.starts (rest (a ++ file.rest), rest_so file.rest h)

      pub longest-told : Longest (λ f. finished_told next say f (length f) k) limit a (arriving_told next say limit a k)
      longest-told = record { begins = begins_in; longest = λ m all. none-longer m all (close _ i.w i.waits) }
