-- Runs and sets that differ only in leaf values of the first have the same outline. Assumes nothing.
use Prim.Native.Nat.{ℕ, zero, suc, ◌+◌, ◌-◌, ◌≤◌, ◌<◌}
use mathlib.Core.Path.{◌≡◌, refl, sym, ap, ◌∙◌}
use mathlib.Core.List.{List}
use mathlib.Core.Bool.{Bool, true, false}
use mathlib.Core.Logic.{by_cases}
use native.Mathlib.Omega.{arith}
use native.Mathlib.Decide.{dec_lt}
use lib.ListN.{length, get_or, drop, length-take, length-drop, get_or-eq_default}
use Rattle.std.specs.Prelude.{Option, Some, None}
use Rattle.parts.specs.Answer.{Answer, is}
use Rattle.parts.proofs.Parts.{part_byte}
use Rattle.steps.specs.Told.{Told, found, nothing, refused}
use Rattle.klv.specs.Item.{Item, past, value_of}
use Rattle.items.specs.declared.Coding.{Coding}
use Rattle.items.specs.Items.{item_step}
use Rattle.items.proofs.Laws.{item-fits}
use Rattle.items.proofs.Lists.{item_moves}
use Rattle.spans.proofs.Items.{item_alike}
use Rattle.outline_text.specs.Tree.{Outline, rest, shown}
use Rattle.outline_text.specs.Opening.{set_of, is_run}
use Rattle.outline_text.specs.Outline.{outline_from, in_set, run_opens, set_opens, run_outline, set_outline}
use Rattle.outline_text.proofs.Going.{tree_nothing, tree_refused, tree_found}
use Rattle.outline_leaves.specs.Leaves.{is_leaf}
use Rattle.outline_leaves.proofs.None.{leaf_in, leaf_low, leaf_high, leaf-in, leaf-none}

-- two lists of one length that agree outside the leaves of an outline
pub record But (o : Outline) (s t : List ℕ) : Type 0 where
  pub same : length t ≡ length s
  pub agree : (q : ℕ) → is_leaf o q ≡ false → get_or t q 0 ≡ get_or s q 0

-- that agree in an item's value outside the leaves in what it opens
abbrev pub ValueBut : Item → Answer Outline → List ℕ → List ℕ → Type 0
ValueBut i a s t = (q : ℕ) → i.klv.value ≤ q → q < past i.klv → leaf_in a (q - i.klv.value) ≡ false → get_or t q 0 ≡ get_or s q 0

-- an opened value is read at its own places
module _ (s t : List ℕ) (same : length t ≡ length s) (i : Item) where
  value_but : (o : Outline) → ((q : ℕ) → i.klv.value ≤ q → q < past i.klv → is_leaf o (q - i.klv.value) ≡ false → get_or t q 0 ≡ get_or s q 0)
      → But o (value_of s i) (value_of t i)
  value_but o a =
      record {
        same = simp (length-take, length-drop) (rw same);
        agree = λ q l. by_cases (dec_lt q i.klv.len)
            (λ h.
            let e : i.klv.value + q - i.klv.value ≡ q = omega arith in
            part_byte t i.klv.value i.klv.len q h ∙ a (i.klv.value + q) (omega arith) (omega arith) (ap (is_leaf o) e ∙ l)
            ∙ sym (part_byte s i.klv.value i.klv.len q h))
            (λ h. beyond t q (omega arith) ∙ sym (beyond s q (omega arith)));
      }
    where
      beyond : (r : List ℕ) (q : ℕ) → i.klv.len ≤ q → get_or (value_of r i) q 0 ≡ 0
      beyond r q h = get_or-eq_default (value_of r i) 0 {n = q} (omega (arith, length-take i.klv.len (drop i.klv.value r)))

-- Items one behind the other: where what each opens is the same, the outline is

module _ (key : ℕ) (ber : Bool) (s t : List ℕ) (same : length t ≡ length s) (opens opens' : Item → Answer Outline)
    (inside : (i : Item) → ValueBut i (opens i) s t → opens' i ≡ opens i) where
  abbrev tree : ℕ → Outline
  tree p = outline_from opens (λ q. length s - q) (item_step key ber s) (length s) p

  abbrev tree' : ℕ → Outline
  tree' p = outline_from opens' (λ q. length t - q) (item_step key ber t) (length t) p

  by_nothing : (p n : ℕ) → item_step key ber s p ≡ nothing n → tree p ≡ rest (length s - n)
  by_nothing = tree_nothing opens (λ q. length s - q) (item_step key ber s) (length s) (item_moves key ber s)

  by_refused : (p m n : ℕ) → item_step key ber s p ≡ refused m n → tree p ≡ rest (length s - n)
  by_refused = tree_refused opens (λ q. length s - q) (item_step key ber s) (length s) (item_moves key ber s)

  by_found : (p : ℕ) (i : Item) (n : ℕ) → item_step key ber s p ≡ found i n → tree p ≡ shown i (opens i) (tree n)
  by_found = tree_found opens (λ q. length s - q) (item_step key ber s) (length s) (item_moves key ber s)

  -- no item from p on has a leaf up to p
  no_leaf : (q p : ℕ) → q < p + 1 → is_leaf (tree p) q ≡ false
  no_leaf =
      leaf-none 1 opens (λ r. length s - r) (item_step key ber s) (length s) (item_moves key ber s)
      (λ p i n x. let f = item-fits key ber s p i n x in (omega arith, f.goes_on))

  abbrev Agrees : ℕ → Type 0
  Agrees p = (q : ℕ) → p ≤ q → is_leaf (tree p) q ≡ false → get_or t q 0 ≡ get_or s q 0

  same_from : (f p : ℕ) → length s - p < f → Agrees p → tree' p ≡ tree p
  unfolding is_leaf
  same_from zero p h a = absurd (omega arith)
  same_from (suc f) p h a = go (item_step key ber s p) refl (same_from f)
    where
      go : (w : Told Item) → item_step key ber s p ≡ w → ((m : ℕ) → length s - m < f → Agrees m → tree' m ≡ tree m) → tree' p ≡ tree p
      go (nothing n) x ih =
          let o = by_nothing p n x in
          let y = item_alike s t same key ber p (λ q l u. a q l (rw o)) in
          tree_nothing opens' (λ q. length t - q) (item_step key ber t) (length t) (item_moves key ber t) p n (y ∙ x) ∙ rw same (sym o)
      go (refused m n) x ih =
          let o = by_refused p m n x in
          let y = item_alike s t same key ber p (λ q l u. a q l (rw o)) in
          tree_refused opens' (λ q. length t - q) (item_step key ber t) (length t) (item_moves key ber t) p m n (y ∙ x) ∙ rw same (sym o)
      go (found i n) x ih =
          let o = by_found p i n x in
          let w = item-fits key ber s p i n x in
          let y = item_alike s t same key ber p (λ q l u. let k = u i n x in a q l (rw o (leaf_low i (opens i) (tree n) q k ∙ no_leaf q n (omega arith)))) in
          let v = inside i (λ q l k d. a q (omega arith) (rw o (leaf-in i (opens i) (tree n) q l k d ∙ no_leaf q n (omega arith)))) in
          let later = ih n (omega arith) (λ q l z. a q (omega arith) (rw o (leaf_high i (opens i) (tree n) q (omega arith) ∙ z))) in
          tree_found opens' (λ q. length t - q) (item_step key ber t) (length t) (item_moves key ber t) p i n (y ∙ x) ∙ rw (v, later) (sym o)

  items_same : ((q : ℕ) → is_leaf (tree 0) q ≡ false → get_or t q 0 ≡ get_or s q 0) → tree' 0 ≡ tree 0
  items_same a = same_from (suc (length s)) 0 (omega arith) (λ q l z. a q z)

-- Runs and sets, level by level

abbrev Runs : ℕ → Type 0
Runs left = (s t : List ℕ) → But (run_outline left s) s t → run_outline left t ≡ run_outline left s

abbrev Sets : ℕ → Type 0
Sets left = (c : Coding) (s t : List ℕ) → But (set_outline left c s) s t → set_outline left c t ≡ set_outline left c s

module _ (s t : List ℕ) (same : length t ≡ length s) (i : Item) where
  pub run_inside : (left : ℕ) → ((m : ℕ) → suc m ≡ left → Sets m) → ValueBut i (run_opens left s i) s t → run_opens left t i ≡ run_opens left s i
  unfolding run_opens in_set leaf_in
  run_inside zero sets v = refl
  run_inside (suc left) sets v = go (set_of i.key) refl
    where
      go : (o : Option Coding) → set_of i.key ≡ o → run_opens (suc left) t i ≡ run_opens (suc left) s i
      go None x = rw x
      go (Some c) x = rw x (ap is (sets left refl c (value_of s i) (value_of t i) (value_but s t same i (set_outline left c (value_of s i)) (λ q l z d. v q l z (rw x d)))))

  set-inside : (left : ℕ) (c : Coding) → ((m : ℕ) → suc m ≡ left → Runs m) → ValueBut i (set_opens left c s i) s t → set_opens left c t i ≡ set_opens left c s i
  unfolding set_opens leaf_in
  set-inside zero c runs v = refl
  set-inside (suc left) c runs v = go (is_run c i.key) refl
    where
      go : (o : Bool) → is_run c i.key ≡ o → set_opens (suc left) c t i ≡ set_opens (suc left) c s i
      go false x = rw x
      go true x = rw x (ap is (runs left refl (value_of s i) (value_of t i) (value_but s t same i (run_outline left (value_of s i)) (λ q l z d. v q l z (rw x d)))))

both : (left : ℕ) → ((m : ℕ) → suc m ≡ left → Runs m × Sets m) → Runs left × Sets left
both left ih = (
  (λ s t b. items_same 16 true s t b.same (run_opens left s) (run_opens left t) (λ i. run_inside s t b.same i left (λ m e. (ih m e).1)) b.agree),
  (λ c s t b. items_same c.tag c.ber s t b.same (set_opens left c s) (set_opens left c t) (λ i. set-inside s t b.same i left c (λ m e. (ih m e).0)) b.agree),
)

pub values_same : (left : ℕ) → Runs left × Sets left
values_same zero = both zero (λ m e. absurd (omega arith))
values_same (suc left) = let ih = values_same left in both (suc left) (λ m e. let z : left ≡ m = omega arith in rw z at ih)
