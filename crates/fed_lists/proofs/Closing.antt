-- The lists, and what closing says. Assumes nothing.
use Prim.Native.Nat.{ℕ, ◌+◌, ◌-◌}
use mathlib.Core.Path.{◌≡◌, refl, sym, ap, ◌∙◌}
use mathlib.Core.List.{List, [], ◌∷◌, ◌++◌, map}
use mathlib.Core.Bool.{true}
use native.Mathlib.Omega.{arith}
use lib.ListN.{length, drop, length-drop}
use Rattle.steps.specs.Tells.{saying as said, told_from}
use Rattle.klv.specs.Item.{Item}
use Rattle.walk.specs.Walk.{stepped}
use Rattle.records.specs.Records.{finished, arriving_from}
use Rattle.records.proofs.Stepping.{stepped_on}
use Rattle.certain.proofs.Certain.{certain}
use Rattle.steps.specs.Passed.{Passed}
use Rattle.records.specs.Passed.{counting}
use Rattle.fed_lists.specs.Run.{records, moved_item}
use Rattle.fed_lists.specs.Fed.{FedArriving, FedFinished, FedCloses, FedClean, FedAgain}
use Rattle.fed_lists.proofs.Stands as by
use Rattle.fed_lists.proofs.Pieces.{stepped-most, ran-here}
use Rattle.fed_lists.proofs.Passed.{ran_right}
use Rattle.fed_lists.proofs.Waiting.{closes, says_clean, says_again}

-- The walk of records

-- a record further on ends further on
moves : (v : ℕ) (i : Item) → stepped (moved_item v i) ≡ v + stepped i
moves v i = omega arith

-- The list

abbrev counted : List Item → List (Passed Item)
counted l = told_from counting 0 l

pub fed-arriving : FedArriving
fed-arriving limit known st a out r =
    let h = ran-here limit known r in
    (ran_right limit known r).counts ∙ ap counted (sym (by.stands_list stepped stepped_on stepped-most limit st a (records out) h.stands h.full))

pub fed-finished : FedFinished
fed-finished limit known st a out r e =
    fed-arriving limit known st a out r ∙ ap counted (ap (λ (n : ℕ). arriving_from n a 0) (sym e) ∙ certain.nothing-more a 0)

-- Closing

pub fed-closes : FedCloses
fed-closes limit known st a out r =
    let here = ran-here limit known r in
    closes stepped stepped_on stepped-most moves limit st a (records out) here.stands here.full known (ran_right limit known r).same

pub fed_clean : FedClean
fed_clean limit known st a out r e =
    let here = ran-here limit known r in
    (ran_right limit known r).counts ∙ ap counted (sym (says_clean stepped stepped_on stepped-most moves limit st a (records out) here.stands here.full e))

-- a list with its counts, without them
records-counted : (g : ℕ) (l : List Item) → records (told_from counting g l) ≡ l
unfolding told_from said
records-counted g [] = refl
records-counted g (i ∷ l) = ap (λ (m : List Item). i ∷ m) (records-counted (stepped i) l)

pub fed_again : FedAgain
fed_again limit known st a out r k e =
    let here = ran-here limit known r in
    let g = says_again stepped stepped_on stepped-most moves limit st a (records out) here.stands here.full k e in
    record {
      there = g.there;
      short = g.short;
      all = λ t more q.
          g.all
          ∙ ap (λ (l : List Item). records out ++ map (moved_item k.value) l)
          (sym (ap records (fed-finished (length a - k.value) true t (drop k.value a) more q (length-drop k.value a)) ∙ records-counted 0 (finished (drop k.value a))));
    }
