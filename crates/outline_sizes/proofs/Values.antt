-- How long the text of a run's and a set's outline is: each line comes of bytes of its own. Assumes nothing.
use Rattle.std.specs.Prelude.{Err, Ok, Result}
use Prim.Native.Nat.{ℕ, zero, suc, ◌+◌, ◌-◌, ◌*◌, ◌≤◌, ◌<◌}
use mathlib.Core.Path.{◌≡◌, refl}
use mathlib.Core.List.{List}
use mathlib.Core.Bool.{Bool, true, false, cond}
use mathlib.Core.Logic.{by_cases}
use native.Mathlib.Omega.{arith}
use native.Mathlib.Decide.{dec_lt}
use lib.ListN.{length, drop, get_or, length-append, length-take, length-drop}
use lib.Dec.{leb, eqb}
use Rattle.std.specs.Prelude.{Option, Some, None}
use Rattle.parts.specs.Answer.{Answer, is, none}
use Rattle.steps.specs.Told.{Told, found, nothing, refused}
use Rattle.steps.proofs.Laws.{Moves}
use Rattle.lengths.specs.declared.Field.{Field}
use Rattle.lengths.specs.declared.NoLength.{NoLength}
use Rattle.lengths.specs.declared.NoLength.TheVariants.{Cut, Invalid}
use Rattle.klv.specs.declared.Klv.{Klv}
use Rattle.klv.specs.Item.{Item, item, klv, past, value_of}
use Rattle.text.specs.Write.{decimal_of}
use Rattle.items.specs.declared.Coding.{Coding}
use Rattle.items.specs.Items.{length_in, by_value, by_length, item_step}
use Rattle.items.proofs.Laws.{item-fits}
use Rattle.items.proofs.Lists.{item_moves}
use Rattle.labels.specs.Label.{codes_items}
use Rattle.outline_lines.specs.Lines.{rest_of}
use Rattle.outline_text.specs.Tree.{Outline, shown}
use Rattle.outline_text.specs.Opening.{coding, coding_by, set_of, is_run}
use Rattle.outline_text.specs.Outline.{outline_from, items_outline, in_set, run_opens, set_opens, run_outline, set_outline}
use Rattle.outline_text.specs.Text.{line_of, text_of}
use Rattle.outline_text.proofs.Going.{tree_nothing, tree_found}
use Rattle.spans.proofs.Items.{item_reach}
use Rattle.outline_sizes.proofs.Lines.{item-length, rest-length}

-- What bytes pay for: w of so many bytes is the text that they allow, `more` of it beside, with numbers up to a limit in so
-- many digits. A byte that is left pays for its line, and a tag, a label and their lengths for theirs, also where they open
pub record Pays (limit digits more : ℕ) (w : ℕ → ℕ) : Type 0 where
  pub few : (n : ℕ) → n ≤ limit → length (decimal_of n) ≤ digits
  pub start : w 0 ≡ 0
  pub steep : (p n q : ℕ) → p + n ≤ q → w p + w n ≤ w q
  pub for_rest : 8 + digits ≤ w 1 + more
  pub for_tag : 8 + digits ≤ w 3
  pub for_run : 6 + digits + more ≤ w 3
  pub for_label : 36 + digits + more ≤ w 17

-- the text of what a value opens
abbrev pub inside_length : ℕ → Answer Outline → ℕ
inside_length level none = 0
inside_length level (is o) = length (text_of level o)

shown-length : (level : ℕ) (i : Item) (a : Answer Outline) (o : Outline)
    → length (text_of level (shown i a o)) ≡ length (line_of level i) + inside_length (level + 1) a + length (text_of level o)
unfolding shown text_of
shown-length level i none o = simp length-append (omega arith)
shown-length level i (is v) o = simp length-append

-- where each item's bytes pay for its lines, all of them pay for the text
module _ (w : ℕ → ℕ) (more n level : ℕ) (opens : Item → Answer Outline) (remain : ℕ → ℕ) (step : ℕ → Told Item) (e : ℕ) (moves : Moves step e)
    (never : (p m q : ℕ) → step p ≡ refused m q → ⊥)
    (ends : (p q : ℕ) → p ≤ n → step p ≡ nothing q → length (rest_of level (remain q)) + w p ≤ w n + more)
    (pays : (p : ℕ) (i : Item) (q : ℕ) → step p ≡ found i q → (length (line_of level i) + inside_length (level + 1) (opens i) + w p ≤ w q) × (q ≤ n)) where
  abbrev tree : ℕ → Outline
  tree p = outline_from opens remain step e p

  paid_from : (f p : ℕ) → e - p < f → p ≤ n → length (text_of level (tree p)) + w p ≤ w n + more
  unfolding text_of
  paid_from zero p h m = absurd (omega arith)
  paid_from (suc f) p h m = go (step p) refl (paid_from f)
    where
      go : (t : Told Item) → step p ≡ t → ((q : ℕ) → e - q < f → q ≤ n → length (text_of level (tree q)) + w q ≤ w n + more)
          → length (text_of level (tree p)) + w p ≤ w n + more
      go (nothing q) x ih = rw (tree_nothing opens remain step e moves p q x) (ends p q m x)
      go (refused k q) x ih = absurd (never p k q x)
      go (found i q) x ih =
          rw (tree_found opens remain step e moves p i q x, shown-length level i (opens i) (tree q))
          (omega (arith, pays p i q x, moves p i q x, ih q (omega (arith, moves p i q x)) (pays p i q x).1))

  pub paid : length (text_of level (tree 0)) + w 0 ≤ w n + more
  paid = paid_from (suc e) 0 (omega arith) (omega arith)

-- An item's key has the bytes of its coding, and a step that finds none stays

abbrev Gives : ℕ → ℕ → Told Item → Type 0
Gives key p (found i q) = length i.key ≤ key
Gives key p (nothing q) = q ≡ p
Gives key p (refused m q) = ⊥

item_gives : (key : ℕ) (ber : Bool) (s : List ℕ) (p : ℕ) (t : Told Item) → item_step key ber s p ≡ t → Gives key p t
unfolding item_step by_length by_value
item_gives key ber s p t x = rw x at (go (leb (p + key) (length s)) (length_in ber s (p + key)))
  where
    at_value : (b : Bool) (k : Klv) (q : ℕ) → Gives key p (cond b (found (item key s k) q) (nothing p))
    at_value true k q = omega (arith, length-take key (drop k.at s))
    at_value false k q = refl

    go : (b : Bool) (l : Result Field NoLength) → Gives key p (cond b (by_length key s p l) (nothing p))
    go false l = refl
    go true (Err Cut) = refl
    go true (Err Invalid) = refl
    go true (Ok f) = at_value (leb f.value (length s - (p + key + f.size))) (klv key p f) (past (klv key p f))

-- The codings of sets

pub data Usual : Coding → Type 0 where
  two : (ber : Bool) → Usual (coding 2 ber)
  one : Usual (coding 1 false)

usual : (label : List ℕ) (c : Coding) → set_of label ≡ Some c → Usual c
unfolding set_of coding_by
usual label c e = go (codes_items label) (eqb (get_or label 5 0) 0x53) (eqb (get_or label 5 0) 0x13) e
  where
    go : (a b d : Bool) → cond a (Some (cond b (coding 2 false) (cond d (coding 2 true) (coding 1 false)))) None ≡ Some c → Usual c
    go true true d e = let z : coding 2 false ≡ c = cc in rw z at (two false)
    go true false true e = let z : coding 2 true ≡ c = cc in rw z at (two true)
    go true false false e = let z : coding 1 false ≡ c = cc in rw z at one
    go false b d e = absurd (let z : ◌≡◌ {A = ℕ} 0 1 = cc in omega arith)

-- Runs and sets, level by level

rest_zero : (level n : ℕ) → n ≡ 0 → length (rest_of level n) ≡ 0
unfolding rest_of
rest_zero level zero e = refl
rest_zero level (suc n) e = absurd (omega arith)

module _ (limit digits more : ℕ) (w : ℕ → ℕ) (k : Pays limit digits more w) where
  pub line_paid : (key level : ℕ) (i : Item) → level < 10 → i.klv.len ≤ limit → length i.key ≤ key → length (line_of level i) ≤ 4 + 2 * key + digits
  line_paid key level i h m l = omega (arith, item-length level h i.key i.klv.len digits (k.few i.klv.len m))

  -- a value that opens as it is paid for
  inside_paid : (s : List ℕ) (i : Item) (o : Outline) (level : ℕ) → length (text_of level o) ≤ w (length (value_of s i)) + more → length (text_of level o) ≤ w i.klv.len + more
  inside_paid s i o level h =
      omega (arith, k.start, k.steep (length (value_of s i)) 0 i.klv.len (omega (arith, length-take i.klv.len (drop i.klv.value s))))

  -- items are paid for where each one is
  items_paid : (key : ℕ) (ber : Bool) (level : ℕ) (s : List ℕ) (opens : Item → Answer Outline) → level < 10 → length s ≤ limit
      → ((p : ℕ) (i : Item) (q : ℕ) → item_step key ber s p ≡ found i q → 4 + 2 * key + digits + inside_length (level + 1) (opens i) + w p ≤ w q)
      → length (text_of level (items_outline key ber s opens)) ≤ w (length s) + more
  items_paid key ber level s opens h m inside =
      omega (arith, k.start, paid w more (length s) level opens (λ q. length s - q) (item_step key ber s) (length s) (item_moves key ber s) (λ p n q x. item_gives key ber s p (refused n q) x) ends pays)
    where
      ends : (p q : ℕ) → p ≤ length s → item_step key ber s p ≡ nothing q → length (rest_of level (length s - q)) + w p ≤ w (length s) + more
      ends p q l x =
          let e = item_gives key ber s p (nothing q) x in
          by_cases (dec_lt p (length s))
          (λ n. omega (arith, rest-length level h (length s - q) digits (k.few (length s - q) (omega arith)), k.for_rest, k.steep p 1 (length s) (omega arith)))
          (λ n. omega (arith, rest_zero level (length s - q) (omega arith), k.start, k.steep p 0 (length s) (omega arith)))

      pays : (p : ℕ) (i : Item) (q : ℕ) → item_step key ber s p ≡ found i q
          → (length (line_of level i) + inside_length (level + 1) (opens i) + w p ≤ w q) × (q ≤ length s)
      pays p i q x =
          let f = item-fits key ber s p i q x in
          (omega (arith, line_paid key level i h (omega arith) (item_gives key ber s p (found i q) x), inside p i q x), f.there)

  abbrev pub Runs : ℕ → Type 0
  Runs left = (level : ℕ) (s : List ℕ) → level + left ≤ 8 → length s ≤ limit → length (text_of level (run_outline left s)) ≤ w (length s) + more

  abbrev pub Sets : ℕ → Type 0
  Sets left = (level : ℕ) (c : Coding) (s : List ℕ) → Usual c → level + left ≤ 8 → length s ≤ limit → length (text_of level (set_outline left c s)) ≤ w (length s) + more

  -- what a label and a tag open is paid for
  module _ (level : ℕ) (s : List ℕ) (m : length s ≤ limit) (i : Item) where
    value_small : length (value_of s i) ≤ limit
    value_small = simp (length-take, length-drop) (omega arith)

    pub label_paid : (left : ℕ) → level + left ≤ 8 → ((n : ℕ) → suc n ≡ left → Sets n) → inside_length (level + 1) (run_opens left s i) ≤ w i.klv.len + more
    unfolding run_opens in_set
    label_paid zero h sets = omega arith
    label_paid (suc left) h sets = go (set_of i.key) refl
      where
        go : (o : Option Coding) → set_of i.key ≡ o → inside_length (level + 1) (run_opens (suc left) s i) ≤ w i.klv.len + more
        go None x = rw x (omega arith)
        go (Some c) x =
            rw x (inside_paid s i (set_outline left c (value_of s i)) (level + 1)
            (sets left refl (level + 1) c (value_of s i) (usual i.key c x) (omega arith) value_small))

    tag_paid : (left : ℕ) (c : Coding) → level + left ≤ 8 → ((n : ℕ) → suc n ≡ left → Runs n) → inside_length (level + 1) (set_opens left c s i) ≤ w i.klv.len + more
    unfolding set_opens
    tag_paid zero c h runs = omega arith
    tag_paid (suc left) c h runs = go (is_run c i.key) refl
      where
        go : (b : Bool) → is_run c i.key ≡ b → inside_length (level + 1) (set_opens (suc left) c s i) ≤ w i.klv.len + more
        go false x = rw x (omega arith)
        go true x =
            rw x (inside_paid s i (run_outline left (value_of s i)) (level + 1) (runs left refl (level + 1) (value_of s i) (omega arith) value_small))

    -- a tag of 2 opens nothing
    flat : (left : ℕ) (ber : Bool) → inside_length (level + 1) (set_opens left (coding 2 ber) s i) ≡ 0
    unfolding set_opens is_run
    flat zero ber = refl
    flat (suc left) ber = refl

  -- a head of so many bytes and a value pay for both
  pub head_paid : (p n len q : ℕ) → p + n + len ≤ q → w p + (w n + w len) ≤ w q
  head_paid p n len q h = omega (arith, k.steep n len (n + len) (omega arith), k.steep p (n + len) q (omega arith))

  run_paid : (left : ℕ) → ((n : ℕ) → suc n ≡ left → Sets n) → Runs left
  run_paid left sets level s h m =
      items_paid 16 true level s (run_opens left s) (omega arith) m
      (λ p i q x. let f = item-fits 16 true s p i q x in
      omega (arith, label_paid level s m i left h sets, k.for_label, head_paid p 17 i.klv.len q (omega arith)))

  set_paid : (left : ℕ) → ((n : ℕ) → suc n ≡ left → Runs n) → Sets left
  set_paid left runs level c s (two ber) h m =
      items_paid 2 ber level s (set_opens left c s) (omega arith) m
      (λ p i q x. let f = item-fits 2 ber s p i q x in
      omega (arith, flat level s m i left ber, k.for_tag, k.steep p 3 q (omega arith)))
  set_paid left runs level c s one h m =
      items_paid 1 false level s (set_opens left c s) (omega arith) m
      (λ p i q x. let f = item-fits 1 false s p i q x in
      omega (arith, tag_paid level s m i left c h runs, k.for_run, item_reach s 1 false p i q x, head_paid p 3 i.klv.len q (omega (arith, item_reach s 1 false p i q x))))

  pub values_paid : (left : ℕ) → Runs left × Sets left
  values_paid zero = (run_paid zero (λ n e. absurd (omega arith)), set_paid zero (λ n e. absurd (omega arith)))
  values_paid (suc left) =
      let ih = values_paid left in
      let step : (n : ℕ) → suc n ≡ suc left → Runs n × Sets n = λ n e. let z : left ≡ n = omega arith in rw z at ih in
      (run_paid (suc left) (λ n e. (step n e).1), set_paid (suc left) (λ n e. (step n e).0))
