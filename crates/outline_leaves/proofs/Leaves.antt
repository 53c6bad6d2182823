-- Two files that differ only in leaf values of the first have the same outline. Assumes nothing.
use Prim.Native.Nat.{ℕ, zero, suc, ◌+◌, ◌-◌, ◌≤◌, ◌<◌}
use mathlib.Core.Path.{◌≡◌, refl, sym, ap, ◌∙◌}
use mathlib.Core.List.{List, [], ◌∷◌}
use mathlib.Core.Bool.{false}
use mathlib.Core.Logic.{by_cases}
use native.Mathlib.Omega.{arith}
use native.Mathlib.Decide.{dec_lt}
use lib.ListN.{length, get_or, get_or-eq_default}
use Rattle.parts.specs.Answer.{Answer}
use Rattle.klv.specs.declared.Klv.{Klv}
use Rattle.klv.specs.Item.{Item, item, past}
use Rattle.walk.specs.declared.Turn.{Turn}
use Rattle.walk.specs.declared.Turn.TheVariants.{Stop, Search, Record}
use Rattle.walk.specs.Rules.{rules}
use Rattle.walk.specs.Walk.{finished_after, finished_by, stepped}
use Rattle.walk.proofs.Laws.{rules_moves, rules_record}
use Rattle.records.specs.Records.{finished_from}
use Rattle.records.proofs.Lists as lists
use Rattle.records.proofs.Lists.{finished-says}
use Rattle.records.proofs.Stepping.{stepped_on}
use Rattle.spans.proofs.Items.{item-same}
use Rattle.spans.proofs.Rules.{rules_agree}
use Rattle.spans.proofs.Step.{next}
use Rattle.outline_text.specs.Tree.{Outline, outlined}
use Rattle.outline_text.specs.Outline.{run_opens, outline_of}
use Rattle.outline_text.specs.Text.{text_of, outline_text}
use Rattle.outline_text.specs.Said.{outline_said, outline_into}
use Rattle.outline_text.proofs.Going.{walk_moves}
use Rattle.outline_leaves.specs.Leaves.{is_leaf, SameButLeaves, LeavesDoNotShow}
use Rattle.outline_leaves.proofs.Leaf.{leaf_low, leaf_high, leaf-in, leaf-none}
use Rattle.outline_leaves.proofs.Values.{ValueBut, run_inside, values_same}

-- The walk's records by the rules at a place: a search is only moving on

module _ (s : List ℕ) (e p : ℕ) where
  by_stop : rules 0 s e p ≡ Stop → finished_from s e p ≡ []
  unfolding finished_by
  by_stop = lists.list_stop stepped stepped_on 0 s e (finished_after stepped s e) (finished-says stepped s e) p

  by_search : (q : ℕ) → rules 0 s e p ≡ Search q → finished_from s e p ≡ finished_from s e q
  unfolding finished_by
  by_search = lists.list_search stepped stepped_on 0 s e (finished_after stepped s e) (finished-says stepped s e) p

  by_record : (k : Klv) → rules 0 s e p ≡ Record k → finished_from s e p ≡ item 16 s k ∷ finished_from s e (past k)
  unfolding finished_by
  by_record = lists.list_record stepped stepped_on 0 s e (finished_after stepped s e) (finished-says stepped s e) p

module _ (s t : List ℕ) (same : length t ≡ length s) (e : ℕ) (opens opens' : Item → Answer Outline)
    (inside : (i : Item) → ValueBut i (opens i) s t → opens' i ≡ opens i) where
  abbrev tree : ℕ → Outline
  tree p = outlined opens (finished_from s e p) 0

  abbrev tree' : ℕ → Outline
  tree' p = outlined opens' (finished_from t e p) 0

  no_leaf : (q p : ℕ) → q < p + 17 → is_leaf (tree p) q ≡ false
  no_leaf = leaf-none 17 opens (λ r. 0) (finished_by stepped s e) e (walk_moves s e)
      (λ p i n x. let f = next s e p i n x in (f.start, f.goes_on))

  abbrev Agrees : ℕ → Type 0
  Agrees p = (q : ℕ) → p ≤ q → is_leaf (tree p) q ≡ false → get_or t q 0 ≡ get_or s q 0

  same_from : (f p : ℕ) → e - p < f → Agrees p → tree' p ≡ tree p
  unfolding outlined is_leaf
  same_from zero p h a = absurd (omega arith)
  same_from (suc f) p h a = go (rules 0 s e p) refl (same_from f)
    where
      go : (u : Turn) → rules 0 s e p ≡ u → ((m : ℕ) → e - m < f → Agrees m → tree' m ≡ tree m) → tree' p ≡ tree p
      go Stop u ih =
          let l = by_stop s e p u in
          let r = rules_agree 0 s t same e p Stop u (λ q y z. a q y (rw l)) in
          rw (l, by_stop t e p r)
      go (Search q) u ih =
          let l = by_search s e p q u in
          let m = rules_moves 0 s e p q u in
          let r = rules_agree 0 s t same e p (Search q) u (λ x y z. a x y (rw l (no_leaf x q (omega arith)))) in
          rw (l, by_search t e p q r) (ih q (omega arith) (λ x y z. a x (omega arith) (rw l z)))
      go (Record k) u ih =
          let i : Item = item 16 s k in
          let l = by_record s e p k u in
          let m = rules_record 0 s e p k u in
          let r = rules_agree 0 s t same e p (Record k) u (λ q y z. a q y (rw l (leaf_low i (opens i) (tree (past k)) q z ∙ no_leaf q (past k) (omega arith)))) in
          let w : item 16 t k ≡ i = item-same s t same 16 k (λ q y z. a q (omega arith) (rw l (leaf_low i (opens i) (tree (past k)) q (omega arith) ∙ no_leaf q (past k) (omega arith)))) in
          let v = inside i (λ q y z d. a q (omega arith) (rw l (leaf-in i (opens i) (tree (past k)) q y z d ∙ no_leaf q (past k) (omega arith)))) in
          let later = ih (past k) (omega arith) (λ q y z. a q (omega arith) (rw l (leaf_high i (opens i) (tree (past k)) q y ∙ z))) in
          rw (l, by_record t e p k r, w, v, later)

  file-same : ((q : ℕ) → is_leaf (tree 0) q ≡ false → get_or t q 0 ≡ get_or s q 0) → tree' 0 ≡ tree 0
  file-same a = same_from (suc e) 0 (omega arith) (λ q l z. a q z)

-- The theorem

module _ (s t : List ℕ) (e depth : ℕ) (a : SameButLeaves s t e depth) where
  outlines : outline_of t e depth ≡ outline_of s e depth
  outlines =
      file-same s t a.as_long e (run_opens (depth - 1) s) (run_opens (depth - 1) t)
      (λ i. run_inside s t a.as_long i (depth - 1) (λ m z. (values_same m).1))
      (λ q z. by_cases (dec_lt q (length s)) (λ h. a.others q h z)
      (λ h. get_or-eq_default t 0 {n = q} (omega (arith, a.as_long)) ∙ sym (get_or-eq_default s 0 {n = q} (omega arith))))

  texts : outline_text t e depth ≡ outline_text s e depth
  texts = ap (text_of 1) outlines

  answers : (room : ℕ) → outline_said t e depth room ≡ outline_said s e depth room
  unfolding outline_said
  answers room = rw (a.as_long, texts)

  outputs : (o : List ℕ) → outline_into t e depth o ≡ outline_into s e depth o
  unfolding outline_into
  outputs o = rw (answers (length o), texts)

pub leaves_do_not_show : LeavesDoNotShow
leaves_do_not_show s t e depth a =
    record { outline = outlines s t e depth a; text = texts s t e depth a; says = answers s t e depth a; into = outputs s t e depth a }
