-- What a state keeps of the bytes that came, and that a byte more keeps it so. Assumes nothing.
use Rattle.std.specs.Prelude.{Err, Ok, Result}
use Prim.Native.Nat.{ℕ, ◌+◌, ◌-◌, ◌≤◌, ◌<◌, min}
use mathlib.Core.Path.{◌≡◌, refl, sym, ap, ◌∙◌}
use mathlib.Core.List.{List, ◌++◌}
use mathlib.Core.Bool.{true}
use mathlib.Core.Logic.{by_cases}
use native.Mathlib.Omega.{arith}
use native.Mathlib.Decide.{dec_lt}
use lib.ListN.{length, get_or, set, take, drop, length-append, length-take, length-drop, length-set, get_or-append}
use lib.Seq.{get_or-set_same, get_or-set_other, get_or-take, get_or-drop, ext_get_or}
use Rattle.parts.proofs.Parts.{part_length, part_byte}
use Rattle.labels.specs.Label.{key_at, key_start, label_at}
use Rattle.lengths.specs.declared.Field.{Field}
use Rattle.lengths.specs.declared.NoLength.{NoLength}
use Rattle.lengths.specs.declared.NoLength.TheVariants.{Cut, Invalid}
use Rattle.lengths.specs.Length.{length_at}
use Rattle.lengths.proofs.Laws.{Case, c_past, c_short, c_none, c_cut, c_long, case, taken}
use Rattle.lengths.proofs.Spans.{length-same, none-same}
use Rattle.fed_states.specs.declared.State.{State}
use Rattle.fed_states.specs.State.{no_label, sought, gone_on, length_of}
use Rattle.fed_states.proofs.Laws.{come}
use Rattle.fed_bytes.specs.Eat.{labelled, behind}
use Rattle.fed_bytes.proofs.Laws.{further, behind-kept, behind-full}
use Rattle.fed_bytes.proofs.Keys.{key-all}
use Rattle.fed_bytes.proofs.Moved.{length_moved}

-- the label, as far as it has come
pub record Named (st : State) (a : List ℕ) : Type 0 where
  pub sixteen : length st.label ≡ 16
  pub bytes : (i : ℕ) → i < st.have → i < 16 → get_or st.label i 0 ≡ get_or a (st.at + i) 0

pub record Knows (st : State) (a : List ℕ) : Type 0 where
  pub count : st.at + st.have ≤ length a
  -- the bytes begin a key's start
  pub starts : (i : ℕ) → i < st.have → i < 4 → get_or a (st.at + i) 0 ≡ get_or key_start i 0
  pub named : 4 ≤ st.have → Named st a
  -- the first nine bytes behind the label
  pub nine : length st.ber ≡ 9
  pub kept : (j : ℕ) → 16 + j < st.have → j < 9 → get_or st.ber j 0 ≡ get_or a (st.at + (16 + j)) 0

-- more bytes change nothing
pub knows_more : (st : State) (a y : List ℕ) → Knows st a → Knows st (a ++ y)
knows_more st a y k =
    record {
      count = rw (length-append a y) (omega (arith, k.count));
      starts = λ i h m. old (st.at + i) (omega (arith, k.count)) ∙ k.starts i h m;
      named = λ h. record { sixteen = (k.named h).sixteen; bytes = λ i m n. (k.named h).bytes i m n ∙ sym (old (st.at + i) (omega (arith, k.count))) };
      nine = k.nine;
      kept = λ j h m. k.kept j h m ∙ sym (old (st.at + (16 + j)) (omega (arith, k.count)));
    }
  where
    old : (i : ℕ) → i < length a → get_or (a ++ y) i 0 ≡ get_or a i 0
    old i h = get_or-append a y 0 i h

-- What it says of the bytes

-- nine bytes are enough for a length, or for none
nine-bytes : (x : List ℕ) → length x ≡ 9 → length_at x 0 ≡ Err Cut → ⊥
nine-bytes x n e = go (length_at x 0) (case x 0) e
  where
    go : (l : Result Field NoLength) → Case x 0 l → l ≡ Err Cut → ⊥
    go l (c_past h) e = omega arith
    go l (c_short h b) e = let z : ◌≡◌ {A = ℕ} 0 1 = cc in omega arith
    go l (c_none h b) e = let z : ◌≡◌ {A = ℕ} 0 1 = cc in omega arith
    go l (c_cut i b m h k) e = omega arith
    go l (c_long i b m h) e = let z : ◌≡◌ {A = ℕ} 0 1 = cc in omega arith

module _ (st : State) (a : List ℕ) (k : Knows st a) where
  pub key_known : 4 ≤ st.have → key_at a st.at ≡ true
  key_known h = key-all a st.at (λ i m. k.starts i (omega arith) m)

  pub label_known : 16 ≤ st.have → label_at a st.at ≡ st.label
  label_known h =
      let n = k.named (omega arith) in
      let w = part_length a st.at 16 (omega (arith, k.count)) in
      ext_get_or 0 (label_at a st.at) st.label (w ∙ sym n.sixteen) (λ i m. part_byte a st.at 16 i (omega arith) ∙ sym (n.bytes i (omega arith) (omega arith)))

  -- the kept bytes behind the label, and those that came
  abbrev has : List ℕ
  has = take (st.have - 16) st.ber

  has-length : length has ≡ min (st.have - 16) 9
  has-length = length-take (st.have - 16) st.ber ∙ rw k.nine

  has_byte : (j : ℕ) → 16 + j < st.have → j < 9 → get_or has j 0 ≡ get_or (drop (st.at + 16) a) j 0
  has_byte j h m =
      let e : st.at + 16 + j ≡ st.at + (16 + j) = omega arith in
      get_or-take (st.have - 16) st.ber j 0 (omega arith) ∙ k.kept j h m ∙ sym (get_or-drop (st.at + 16) a j 0 ∙ rw e)

  there : length_at (drop (st.at + 16) a) 0 ≡ length_at a (st.at + 16)
  there = let e : st.at + 16 + 0 ≡ st.at + 16 = omega arith in length_moved (st.at + 16) a 0 ∙ ap (length_at a) e

  rest-length : length (drop (st.at + 16) a) ≡ length a - (st.at + 16)
  rest-length = length-drop (st.at + 16) a

  pub length_known : (f : Field) → length_of st ≡ Ok f → length_at a (st.at + 16) ≡ Ok f
  length_known f e =
      let c = come st f e in
      sym there ∙ length-same has (drop (st.at + 16) a) 0 f e
      (record {
        there = omega (arith, rest-length, k.count, c.behind);
        equal = λ i x y. sym (has_byte i (omega (arith, c.behind)) (omega (arith, c.few)));
      })

  pub none_known : length_of st ≡ Err Invalid → 17 ≤ st.have → length_at a (st.at + 16) ≡ Err Invalid
  none_known e h =
      sym there ∙ none-same has (drop (st.at + 16) a) 0 e
      (record { there = omega (arith, rest-length, k.count); equal = λ i x y. sym (has_byte i (omega arith) (omega arith)) })

  -- and the other way, as far as the bytes have come
  pub length_back : (f : Field) → length_at a (st.at + 16) ≡ Ok f → 16 + f.size ≤ st.have → length_of st ≡ Ok f
  length_back f e h =
      let t = taken a (st.at + 16) f e in
      length-same (drop (st.at + 16) a) has 0 f (there ∙ e)
      (record { there = omega (arith, has-length, t.most); equal = λ i x y. has_byte i (omega arith) (omega (arith, t.most)) })

  pub none_back : length_at a (st.at + 16) ≡ Err Invalid → 17 ≤ st.have → length_of st ≡ Err Invalid
  none_back e h =
      none-same (drop (st.at + 16) a) has 0 (there ∙ e)
      (record { there = omega (arith, has-length); equal = λ i x y. has_byte i (omega arith) (omega arith) })

  -- where the bytes end with those of the state, a length that is cut is cut there, too
  pub cut_known : length_of st ≡ Err Cut → st.at + st.have ≡ length a → 16 ≤ st.have → length_at a (st.at + 16) ≡ Err Cut
  cut_known e all h = by_cases (dec_lt st.have 25) same (λ m. absurd (nine-bytes has (has-length ∙ omega arith) e))
    where
      same : st.have < 25 → length_at a (st.at + 16) ≡ Err Cut
      same m =
          let x = has-length in
          let y = rest-length in
          sym there ∙ ap (λ (l : List ℕ). length_at l 0) (ext_get_or 0 (drop (st.at + 16) a) has (omega arith) (λ i n. sym (has_byte i (omega arith) (omega arith)))) ∙ e

-- A byte more

module _ (st : State) (a : List ℕ) (k : Knows st a) (b : ℕ) (more : st.at + st.have < length a) (is_b : get_or a (st.at + st.have) 0 ≡ b) where
  -- of the label
  pub knows_label : 4 ≤ st.have → st.have < 16 → Knows (labelled st b) a
  knows_label h m =
      record {
        count = omega arith;
        starts = λ i x y. k.starts i (omega arith) y;
        named = λ _. record { sixteen = length-set st.label st.have b ∙ (k.named h).sixteen; bytes = bytes };
        nine = k.nine;
        kept = λ j x y. absurd (omega arith);
      }
    where
      bytes : (i : ℕ) → i < st.have + 1 → i < 16 → get_or (set st.label st.have b) i 0 ≡ get_or a (st.at + i) 0
      bytes i x y =
          by_cases (dec_lt i st.have) (λ z. get_or-set_other st.label st.have i b 0 (λ e. omega arith) ∙ (k.named h).bytes i z y)
          (λ z. let e : i ≡ st.have = omega arith in rw e (get_or-set_same st.label st.have b 0 (omega (arith, (k.named h).sixteen)) ∙ sym is_b))

  -- of what is behind it
  pub knows_behind : 16 ≤ st.have → Knows (behind st b) a
  knows_behind h = by_cases (dec_lt st.have 25) (λ m. rw (behind-kept st b m) (kept_so m)) (λ m. rw (behind-full st b (omega arith)) (full_so (omega arith)))
    where
      stored : st.have < 25 → (j : ℕ) → 16 + j < st.have + 1 → j < 9 → get_or (set st.ber (st.have - 16) b) j 0 ≡ get_or a (st.at + (16 + j)) 0
      stored m j x y =
          by_cases (dec_lt (16 + j) st.have) (λ z. get_or-set_other st.ber (st.have - 16) j b 0 (λ e. omega arith) ∙ k.kept j z y)
          (λ z. let e : j ≡ st.have - 16 = omega arith in
          let w : st.at + (16 + (st.have - 16)) ≡ st.at + st.have = omega arith in
          rw (e, w) (get_or-set_same st.ber (st.have - 16) b 0 (omega (arith, k.nine)) ∙ sym is_b))

      has_named : (ber : List ℕ) → Named (record { limit = st.limit; known = st.known; live = st.live; at = st.at; have = st.have + 1; since = st.since; label = st.label; ber = ber }) a
      has_named ber = record { sixteen = (k.named (omega arith)).sixteen; bytes = λ i x y. (k.named (omega arith)).bytes i (omega arith) y }

      kept_so : st.have < 25
          → Knows (record { limit = st.limit; known = st.known; live = st.live; at = st.at; have = st.have + 1; since = st.since; label = st.label; ber = set st.ber (st.have - 16) b }) a
      kept_so m =
          record {
            count = omega arith;
            starts = λ i x y. k.starts i (omega arith) y;
            named = λ _. has_named (set st.ber (st.have - 16) b);
            nine = length-set st.ber (st.have - 16) b ∙ k.nine;
            kept = stored m;
          }

      full_so : 25 ≤ st.have → Knows (further st 1) a
      full_so m =
          record {
            count = omega arith;
            starts = λ i x y. k.starts i (omega arith) y;
            named = λ _. has_named st.ber;
            nine = k.nine;
            kept = λ j x y. k.kept j (omega arith) y;
          }

-- A search, of whose key m bytes have come at p
pub knows_sought : (st : State) (a : List ℕ) (p m : ℕ) → p + m ≤ length a → m ≤ 4 → ((i : ℕ) → i < m → get_or a (p + i) 0 ≡ get_or key_start i 0) → Knows (sought st p m) a
knows_sought st a p m h f s =
    record {
      count = h;
      starts = λ i x y. s i x;
      named = λ x. record { sixteen = refl; bytes = λ i y z. get_or-append key_start (drop 4 no_label) 0 i (omega arith) ∙ sym (s i y) };
      nine = refl;
      kept = λ j x y. absurd (omega arith);
    }

-- Behind a record
pub knows_gone : (st : State) (a : List ℕ) (p : ℕ) (label : List ℕ) → p ≤ length a → Knows (gone_on st p label) a
knows_gone st a p label h =
    record { count = omega arith; starts = λ i x y. absurd (omega arith); named = λ x. absurd (omega arith); nine = refl; kept = λ j x y. absurd (omega arith) }
