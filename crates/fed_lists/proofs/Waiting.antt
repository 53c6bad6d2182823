-- What closing says, and what is found from there on, of a walk that stands behind all bytes. Assumes nothing.
use Rattle.std.specs.Prelude.{Err, Ok}
use Prim.Native.Nat.{ℕ, ◌+◌, ◌-◌, ◌≤◌, ◌<◌}
use mathlib.Core.Path.{◌≡◌, refl, sym, ap, ◌∙◌}
use mathlib.Core.List.{List, [], ◌∷◌, ◌++◌, map, append-nil}
use mathlib.Core.Bool.{Bool, true, false, cond, ◌&&◌}
use mathlib.Core.Logic.{by_cases, inl}
use native.Mathlib.Omega.{arith}
use native.Mathlib.Decide.{dec_lt}
use borrow.Author.Tests.{le-ltb, lt-ltb, le-leb, lt-leb}
use lib.ListN.{length, take, drop}
use lib.Dec.{ltb}
use Rattle.steps.specs.Told.{refused}
use Rattle.parts.specs.Answer.{Answer, is, none}
use Rattle.labels.specs.Label.{key_at}
use Rattle.lengths.specs.declared.Field.{Field}
use Rattle.lengths.specs.declared.NoLength.TheVariants.{Cut}
use Rattle.lengths.specs.Length.{length_at}
use Rattle.lengths.proofs.Laws as lengths
use Rattle.klv.specs.declared.Klv.{Klv}
use Rattle.klv.specs.Item.{klv, past, Item, item}
use Rattle.walk.specs.declared.Turn.TheVariants.{Search}
use Rattle.walk.proofs.Laws.{rule_end, rule_cut, rule_late}
use Rattle.records.specs.Records.{finished_list_by}
use Rattle.records.proofs.Lists.{Onward}
use Rattle.certain.proofs.Held.{fin_stop, fin_search}
use Rattle.fed_states.specs.declared.State.{State}
use Rattle.fed_states.specs.State.{length_of}
use Rattle.fed_states.specs.Close.{ends_by, close_of}
use Rattle.fed_states.proofs.Laws.{come, ends_is, ends_clean, close_early, close_limit, close-end}
use Rattle.fed_bytes.proofs.Laws.{Resting, for_length, for_value}
use Rattle.fed_lists.specs.Run.{moved_item, awaited_value, awaited_length, awaited, closing}
use Rattle.fed_lists.proofs.Goes.{expects, finishes, waits_from, is-finished, is_expected, waits_stopped, asked, awaited-short}
use Rattle.fed_lists.proofs.Knows.{key_known, length_known, cut_known}
use Rattle.fed_lists.proofs.Stands.{Stands, stands_sound, stands_list, stopped}
use Rattle.fed_lists.proofs.Shift.{from-there}

-- What is waited for

module _ (limit : ℕ) (a : List ℕ) (w : ℕ) (h : 17 ≤ length a - w) (k : key_at a w ≡ true) where
  awaited-cut : length_at a (w + 16) ≡ Err Cut → awaited limit a w ≡ none
  unfolding awaited awaited_length
  awaited-cut l = simp (le-ltb _ _ h, k, l)

  awaited-value : (f : Field) → length_at a (w + 16) ≡ Ok f → length a - (w + 16 + f.size) < f.value → w + 16 + f.size + f.value ≤ limit
      → awaited limit a w ≡ is (klv 16 w f)
  unfolding awaited awaited_length awaited_value
  awaited-value f l m n = simp (le-ltb _ _ h, k, l, lt-leb _ _ m, le-leb _ _ n)

-- two lists that go on alike from the same beginning
cancel : (l m n : List Item) → l ++ m ≡ l ++ n → m ≡ n
cancel [] m n e = e
cancel (i ∷ l) m n e = cancel l m n (cc)

-- the value by its record
asked_once : (a : List ℕ) (x y : Answer Klv) → asked a x ≡ asked a y → x ≡ y
unfolding asked
asked_once a (is k) (is l) e = let z : item 16 a k ≡ item 16 a l = cc in ap is (ap (λ (i : Item). i.klv) z)
asked_once a (is k) none e = absurd (let z : ◌≡◌ {A = ℕ} 0 1 = cc in omega arith)
asked_once a none (is l) e = absurd (let z : ◌≡◌ {A = ℕ} 0 1 = cc in omega arith)
asked_once a none none e = refl

-- A state that stands behind all bytes, wherever walking goes on after a record

module _ (next : Item → ℕ) (on : Onward next) (most : (i : Item) → next i ≤ past i.klv) (moves : (v : ℕ) (i : Item) → next (moved_item v i) ≡ v + next i)
    (limit : ℕ) (st : State) (a : List ℕ) (out : List Item) (s : Stands next on most limit st a out) (full : st.at + st.have ≡ length a) where
  -- the finished list is what was answered, and what is found from the state's place on
  pub all_of_it : finished_list_by next a (length a) 0 ≡ out ++ finished_list_by next a (length a) st.at
  all_of_it =
      let w = s.within in
      sym (is-finished next on limit a 0) ∙ rw append-nil at (s.goes finishes [] (omega arith)) ∙ ap (λ (l : List Item). out ++ l) (is-finished next on limit a st.at)

  -- what the walk waits for where it waits is what it waits for at the state's place
  same-awaited : awaited limit a (waits_from next on limit a 0) ≡ awaited limit a st.at
  same-awaited =
      let w = s.within in
      asked_once a (awaited limit a (waits_from next on limit a 0)) (awaited limit a st.at)
      (cancel out (asked a (awaited limit a (waits_from next on limit a 0))) (asked a (awaited limit a st.at))
      (ap (λ (l : List Item). l ++ asked a (awaited limit a (waits_from next on limit a 0))) (sym (stands_list next on most limit st a out s (full)))
      ∙ sym (is_expected next on limit a 0) ∙ rw append-nil at (s.goes expects [] (omega arith))
      ∙ ap (λ (l : List Item). out ++ l) (is_expected next on limit a st.at ∙ waits_stopped next on limit a st.at (stopped next on most limit st a out s (full)))))

  -- where the state waits, by cases: near the end, for a length, or for a value
  data Place : Type 0 where
    near : st.have < 17 → Place
    length_cut : 17 ≤ st.have → length_of st ≡ Err Cut → key_at a st.at ≡ true → length_at a (st.at + 16) ≡ Err Cut → Place
    value-cut : 17 ≤ st.have → (f : Field) → length_of st ≡ Ok f → key_at a st.at ≡ true → length_at a (st.at + 16) ≡ Ok f
        → length a - (st.at + 16 + f.size) < f.value → st.at + 16 + f.size + f.value ≤ limit → Place

  place : Place
  place = by_cases (dec_lt st.have 17) near (λ h. go (omega arith) (s.rests (omega arith)))
    where
      go : 17 ≤ st.have → Resting st → Place
      go h (for_length c) = length_cut h c (key_known st a s.knows (omega arith)) (cut_known st a s.knows c (full) (omega arith))
      go h (for_value f c m n) = value-cut h f c (key_known st a s.knows (omega arith)) (length_known st a s.knows f c) (omega (arith, full)) (omega (arith, s.same))

  -- nothing has come behind the label
  no_length : st.have < 17 → length_of st ≡ Err Cut
  no_length h = let z : st.have - 16 ≡ 0 = omega arith in ap (λ (n : ℕ). length_at (take n st.ber) 0) z ∙ lengths.past [] 0 (omega arith)

  pub closing-is : ends_by st (length_of st) ≡ closing st a (awaited limit a (waits_from next on limit a 0))
  unfolding closing
  closing-is = go place ∙ ap (closing st a) (sym same-awaited)
    where
      go : Place → ends_by st (length_of st) ≡ closing st a (awaited limit a st.at)
      go (near h) = rw (awaited-short limit a st.at (omega (arith, full))) (ap (ends_by st) (no_length h) ∙ ends_clean st Cut)
      go (length_cut h c k l) = rw (awaited-cut limit a st.at (omega (arith, full)) k l) (ap (ends_by st) c ∙ ends_clean st Cut)
      go (value-cut h f c k l m n) =
          let x : length a - (st.at + 16 + f.size) ≡ st.have - (16 + f.size) = omega (arith, full) in
          let y : st.at + 16 + f.size ≡ st.at + (16 + f.size) = omega arith in
          rw (awaited-value limit a st.at (omega (arith, full)) k f l m n) (ap (ends_by st) c ∙ ends_is st f ∙ rw (x, y))

  -- clean: nothing more is found from the state's place on
  pub says_clean : awaited limit a (waits_from next on limit a 0) ≡ none → finished_list_by next a (length a) 0 ≡ out
  says_clean e = rw append-nil at (all_of_it ∙ ap (λ (l : List Item). out ++ l) (go place))
    where
      go : Place → finished_list_by next a (length a) st.at ≡ []
      go (near h) = fin_stop next on a st.at (rule_end 0 a (length a) st.at (omega (arith, full)))
      go (length_cut h c k l) = fin_stop next on a st.at (rule_cut 0 a (length a) st.at (omega (arith, full)) k l)
      go (value-cut h f c k l m n) =
          absurd (let g = awaited-value limit a st.at (omega (arith, full)) k f l m n in let x = same-awaited in let z : ◌≡◌ {A = ℕ} 0 1 = cc in omega arith)

  -- again: what is found from the value's start on
  pub record From (v : ℕ) : Type 0 where
    pub there : v ≤ length a
    pub short : length a < limit
    pub all : finished_list_by next a (length a) 0 ≡ out ++ map (moved_item v) (finished_list_by next (drop v a) (length (drop v a)) 0)

  pub says_again : (k : Klv) → awaited limit a (waits_from next on limit a 0) ≡ is k → From k.value
  says_again k e = go place
    where
      none_here : awaited limit a st.at ≡ none → ⊥
      none_here g = let x = same-awaited in let z : ◌≡◌ {A = ℕ} 0 1 = cc in omega arith

      go : Place → From k.value
      go (near h) = absurd (none_here (awaited-short limit a st.at (omega (arith, full))))
      go (length_cut h c y l) = absurd (none_here (awaited-cut limit a st.at (omega (arith, full)) y l))
      go (value-cut h f c y l m n) = there (let g = awaited-value limit a st.at (omega (arith, full)) y f l m n in let x = same-awaited in cc)
        where
          there : is (klv 16 st.at f) ≡ is k → From k.value
          there z =
              let j : klv 16 st.at f ≡ k = cc in
              let v : st.at + 16 + f.size ≡ k.value = ap (λ (i : Klv). i.value) j in
              let b = come st f c in
              record {
                there = omega (arith, full, b.behind);
                short = omega (arith, full, b.behind);
                all = all_of_it ∙ ap (λ (r : List Item). out ++ r) (from_v k.value v ∙ from-there next on moves k.value a);
              }
            where
              from_v : (v : ℕ) → st.at + 16 + f.size ≡ v → finished_list_by next a (length a) st.at ≡ finished_list_by next a (length a) v
              from_v v z =
                  fin_search next on a st.at v
                  (rule_late 0 a (length a) st.at (omega (arith, full)) y f l (omega (arith, full)) (omega arith) ∙ ap Search z)

  -- closing is refused before a known end, and else says what is waited for
  pub closes : (known : Bool) → st.known ≡ known → close_of st ≡ cond (known && ltb (length a) limit) (refused 5 st) (closing st a (awaited limit a (waits_from next on limit a 0)))
  closes false q = close_limit st (stands_sound next on most limit st a out s) q ∙ closing-is
  closes true q =
      let sound = stands_sound next on most limit st a out s in
      by_cases (dec_lt (length a) limit)
      (λ h. rw (lt-ltb _ _ h) (close_early st sound q (omega (arith, full, s.same))))
      (λ h. rw (le-ltb (length a) limit (omega arith)) (close-end st sound q (omega (arith, full, s.same)) ∙ closing-is))
