-- Demand 3 of the records, and that a record once found stays the next one. Assumes nothing.
use Prim.Native.Nat.{ℕ, ◌+◌, ◌-◌, ◌≤◌, min}
use mathlib.Core.Path.{◌≡◌, refl, sym, ap, ◌∙◌}
use mathlib.Core.List.{List, ◌∷◌, ◌++◌, head-eq_of_cons-eq}
use native.Mathlib.Omega.{arith}
use lib.ListN.{length, length-append}
use Rattle.steps.specs.Told.{Told, found, nothing, refused}
use Rattle.steps.specs.Tells.{state_of}
use Rattle.steps.specs.Next.{Cursor, cursor}
use Rattle.steps.specs.Passed.{Passed}
use Rattle.steps.proofs.Tells.{itself, told_itself}
use Rattle.klv.specs.Item.{Item, past}
use Rattle.walk.specs.Walk.{walked, arriving_after, arriving_by, stepped, arriving_step}
use Rattle.walk.specs.Passed.{last_on, counted, passing}
use Rattle.walk.proofs.Answers.{arriving-within, not-past_limit}
use Rattle.records.specs.Records.{finished_from, arriving_from, waits_at, finished_told, arriving_told, waits_told}
use Rattle.records.specs.Passed.{counting, as_counted, waits_passed}
use Rattle.records.proofs.Lists.{found-next, arriving-says}
use Rattle.records.proofs.Stepping.{stepped_on, arriving_steps}
use Rattle.certain.specs.Certain.{CertainLists, CertainRecords, CertainPassed, StaysNext}
use Rattle.certain.proofs.Since.{since-before}
use Rattle.certain.proofs.Told.{certain-told, counting_as}

-- a record as it is, with nothing carried
plain : CertainLists (finished_told {S = Unit {0}} stepped itself) (arriving_told stepped itself) (waits_told stepped itself)
plain =
    certain-told stepped itself
    (record { on = stepped_on; place = λ i. i.klv.at; placed = λ s i b t x. let e : i ≡ b = cc in ap (λ (j : Item). j.klv.at) (sym e); steps = λ s i t x. refl })

pub certain : CertainRecords
certain =
    coe 0 1
    (i. CertainLists (λ f e p. told_itself tt (finished_from f e p) i) (λ limit a p. told_itself tt (arriving_from limit a p) i) waits_at)
    (record {
      certain = λ limit a p. plain.certain limit a (cursor p tt);
      never_unsaid = λ limit a x p. plain.never_unsaid limit a x (cursor p tt);
      goes_on = λ limit a x p. plain.goes_on limit a x (cursor p tt);
      nothing-more = λ a p. plain.nothing-more a (cursor p tt);
    })

-- a record is followed by the cursor behind its value
found-past : (limit : ℕ) (a : List ℕ) (p : ℕ) (i : Item) (q : ℕ) → length a ≤ limit → arriving_step limit a p ≡ found i q → past i.klv ≡ q
unfolding arriving_by
found-past limit a p i q h x =
    found-next stepped a (arriving_after stepped a) (arriving-says stepped a) (walked limit a (length a) p) i q (sym (arriving-within limit a p h) ∙ x)

stays : (limit : ℕ) (a x : List ℕ) (p : ℕ) (i : Item) (q : ℕ) → length (a ++ x) ≤ limit → arriving_step limit a p ≡ found i q → arriving_step limit (a ++ x) p ≡ found i q
stays limit a x p i q fits h = go (arriving_step limit (a ++ x) p) refl
  where
    within : length a ≤ limit
    within = omega (arith, length-append a x)

    -- its list begins with the record, as a's does
    list_so : arriving_from limit (a ++ x) p ≡ i ∷ arriving_from limit (a ++ x) q
    list_so =
        let steps = arriving_steps limit a within in
        sym (certain.goes_on limit a x p fits) ∙ rw (steps.next p i q h, steps.left-next p i q h) (ap (λ (r : List Item). i ∷ r) (certain.goes_on limit a x q fits))

    go : (t : Told Item) → arriving_step limit (a ++ x) p ≡ t → arriving_step limit (a ++ x) p ≡ found i q
    go (found j r) y =
        let e : j ≡ i = head-eq_of_cons-eq (sym ((arriving_steps limit (a ++ x) fits).next p j r y) ∙ list_so) in
        let u : r ≡ q = sym (found-past limit (a ++ x) p j r fits y) ∙ ap (λ (k : Item). past k.klv) e ∙ found-past limit a p i q within h in
        y ∙ (λ k. found (e k) (u k))
    go (nothing r) y = let l = sym ((arriving_steps limit (a ++ x) fits).over p r y) ∙ list_so in absurd (let z : ◌≡◌ {A = ℕ} 0 1 = cc in omega arith)
    go (refused n r) y = absurd (not-past_limit limit (a ++ x) p fits n r y)

pub stays_next : StaysNext
unfolding passing
stays_next limit a x k c q fits h = go (arriving_step limit a k.at) refl
  where
    go : (t : Told Item) → arriving_step limit a k.at ≡ t → passing k (arriving_step limit (a ++ x) k.at) ≡ found c q
    go (found i r) y = ap (passing k) (stays limit a x k.at i r fits y) ∙ sym (ap (passing k) y) ∙ h
    go (nothing r) y = let n = sym (ap (passing k) y) ∙ h in absurd (let z : ◌≡◌ {A = ℕ} 0 1 = cc in omega arith)
    go (refused m r) y = let n = sym (ap (passing k) y) ∙ h in absurd (let z : ◌≡◌ {A = ℕ} 0 1 = cc in omega arith)

-- The records with their counts

pub certain-passed : CertainPassed
unfolding state_of
certain-passed =
    counting_as as_counted counts_itself
    (certain-told stepped counting
    (record { on = stepped_on; place = λ c. c.it.klv.at; placed = λ s i b t x. let e : counted s i ≡ b = cc in ap (λ (c : Passed Item). c.it.klv.at) (sym e); steps = λ s i t x. refl }))
  where
    counts_itself : (limit : ℕ) (a : List ℕ) (k : Cursor ℕ) → as_counted (waits_passed limit a k) ≡ waits_passed limit a k
    counts_itself limit a k =
        let w = waits_passed limit a k in
        let h : w.carried ≤ w.at = since-before stepped stepped_on counting (λ g. g) (λ g i. refl) limit a k.at (last_on k) (omega arith) in
        let e : min w.carried w.at ≡ w.carried = omega arith in
        λ i. cursor w.at (e i)
