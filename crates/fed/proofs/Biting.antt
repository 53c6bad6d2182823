-- Taking the bytes behind a key's start at once. Assumes nothing.
use Rattle.std.specs.Prelude.{Option, Some, None, is_some}
use Rattle.std.specs.Prelude.{Err, Ok, Result}
use Prim.Native.Nat.{ℕ, ◌+◌, ◌-◌, ◌≤◌, ◌<◌, min, max}
use mathlib.Core.Bool.{true, false, false≢true}
use mathlib.Core.Path.{◌≡◌, refl, sym, ap, ◌∙◌}
use mathlib.Core.List.{List, [], ◌∷◌}
use mathlib.Core.Logic.{by_cases}
use native.Mathlib.Omega.{arith}
use native.Mathlib.Decide.{dec_lt}
use borrow.Author.Tests.{le-leb, lt-leb}
use lib.ListN.{length, take, drop}
use Rattle.steps.specs.Told.{nothing}
use Rattle.lengths.specs.declared.Field.{Field}
use Rattle.lengths.specs.declared.NoLength.{NoLength}
use Rattle.lengths.specs.declared.NoLength.TheVariants.{Cut, Invalid}
use Rattle.lengths.specs.Length.{length_at}
use Rattle.lengths.proofs.Laws as lengths
use Rattle.klv.specs.declared.Klv.{Klv}
use Rattle.fed_states.specs.declared.State.{State}
use Rattle.fed_states.specs.State.{length_of}
use Rattle.fed_states.proofs.Laws.{come}
use Rattle.fed_bytes.specs.Eat.{turned, turn_of}
use Rattle.fed_bytes.specs.Feed.{Taken, took, up_to}
use Rattle.fed_bytes.specs.Fill.{filled}
use Rattle.fed_bytes.proofs.Laws.{Room, turned-room, turn_case}
use Rattle.fed_bytes.proofs.Coming.{comes_cut, comes_waits, comes_none, comes_late, comes_record}
use Rattle.fed.specs.declared.Eaten.{Eaten}
use Rattle.fed.specs.declared.Fed.{Fed}
use Rattle.fed.specs.Told.{found_told, eaten_told, fed_told}
use Rattle.fed.specs.Parts.{reaches, having, due_of, onward, Bitten}
use Rattle.fed.proofs.Starting.{reaches_bytewise}
use Rattle.fed.proofs.Laws.{after-told, told-nothing, no_record}

-- With how many bytes something comes of a length

module _ (st : State) where
  pub due_cut : due_of st (Err Cut) ≡ 0
  unfolding due_of
  due_cut = refl

  pub due_none : due_of st (Err Invalid) ≡ 17
  unfolding due_of
  due_none = refl

  module _ (f : Field) where
    pub due_fits : st.at + 16 + f.size + f.value ≤ st.limit → due_of st (Ok f) ≡ 16 + f.size + f.value
    unfolding due_of
    due_fits h = simp (le-leb _ _ h)

    pub due_late : st.limit < st.at + 16 + f.size + f.value → due_of st (Ok f) ≡ 16 + f.size
    unfolding due_of
    due_late h = simp (lt-leb _ _ h)

-- no length is read before a byte behind the label has come
none-behind : (st : State) → st.have < 17 → length_of st ≡ Err Invalid → ⊥
none-behind st h e =
    let z : st.have - 16 ≡ 0 = omega arith in
    let c = ap (λ (n : ℕ). length_at (take n st.ber) 0) z ∙ lengths.past [] 0 (omega arith) in
    let y : ◌≡◌ {A = ℕ} 0 1 = cc in omega arith

-- an answer goes on where its state and count say
onward-is : (piece label : List ℕ) (x : Option (Klv × ℕ)) (s : State) (m : ℕ) → onward piece (found_told label (took s m) x) ≡ up_to (λ t. reaches t (drop m piece) m) m (found_told label s x)
unfolding onward up_to
onward-is piece label (Some (k, n)) s m = refl
onward-is piece label None s m = refl

-- what was taken at once, by the answer: a record, or the bytes that are left
module _ (st : State) (piece : List ℕ) (i : ℕ) (r : Fed) (b : Bitten st piece i r) where
  pub bitten_record : is_some r.found ≡ true → fed_told r ≡ reaches st (drop i piece) i
  unfolding onward
  bitten_record h = go r.found h ∙ b.goes
    where
      go : (x : Option (Klv × ℕ)) → is_some x ≡ true → found_told r.state.label (took r.state r.taken) x ≡ onward piece (found_told r.state.label (took r.state r.taken) x)
      go (Some (k, n)) e = refl
      go None e = absurd (false≢true e)

  pub bitten_on : is_some r.found ≡ false → reaches r.state (drop r.taken piece) r.taken ≡ reaches st (drop i piece) i
  bitten_on o =
      sym (no_record r.state.label r.found r.state (λ s. reaches s (drop r.taken piece) r.taken) r.taken o)
      ∙ sym (onward-is piece r.state.label r.found r.state r.taken) ∙ b.goes

-- The bytes of a piece from i on, behind a key's start

module _ (st : State) (piece : List ℕ) (i : ℕ) (inside : i < length piece) (fits : st.at + st.have + (length piece - i) ≤ st.limit) (four : 4 ≤ st.have) where
  abbrev more : ℕ
  more = length piece - i

  abbrev few : ℕ
  few = min (25 - st.have) (length piece - i)

  abbrev pub kept : State
  kept = filled st piece i (min (25 - st.have) (length piece - i))

  -- as the code has it
  pub kept_by : (s : State) (m n : ℕ) → s ≡ filled st piece i m → m ≡ min n (length piece - i) → n ≡ 25 - st.have → s ≡ kept
  kept_by s m n x y z = x ∙ ap (filled st piece i) (y ∙ ap (λ (k : ℕ). min k (length piece - i)) z)

  enough : few < more → 25 ≤ st.have + few
  enough h = omega arith

  -- nothing comes of them
  pub bitten_quiet : (r : Fed) → fed_told r ≡ nothing (took (having kept (st.have + (length piece - i))) (length piece))
      → reaches st (drop i piece) i ≡ reaches (having kept (st.have + (length piece - i))) (drop (i + (length piece - i)) piece) (i + (length piece - i)) → Bitten st piece i r
  unfolding onward
  bitten_quiet r e g =
      let t = told-nothing r.state.label r.found (took r.state r.taken) _ e in
      let n : r.taken ≡ length piece = ap (λ (c : Taken). c.taken) t in
      let s : r.state ≡ having kept (st.have + more) = ap (λ (c : Taken). c.state) t in
      let z : i + more ≡ length piece = omega arith in
      record {
        up = omega arith;
        most = omega arith;
        same = ap (λ (x : State). x.limit) s;
        fits = omega (arith, ap (λ (x : State). x.at) s, ap (λ (x : State). x.have) s);
        goes = ap (onward piece) e ∙ sym (rw z at g);
      }

  -- something comes of the byte with which e have come
  pub bitten_comes : (e : ℕ) → st.have < e → e ≤ st.have + (length piece - i) → 17 ≤ e → (x : Eaten) → eaten_told x ≡ turned (having kept e) (turn_of (having kept e))
      → reaches st (drop i piece) i ≡ up_to (λ s. reaches s (drop (i + (e - st.have)) piece) (i + (e - st.have))) (i + (e - st.have)) (turned (having kept e) (turn_of (having kept e)))
      → Bitten st piece i (record { state = x.state; taken = i + (e - st.have); found = x.found })
  bitten_comes e h w b x is g =
      let m = i + (e - st.have) in
      let room : Room st.limit (length piece - m) (having kept e) = record { same = refl; fits = omega arith } in
      let r = rw (after-told x.state.label x.found x.state) at (rw (sym is) at (turned-room st.limit (length piece - m) (having kept e) _ room b (turn_case (having kept e)))) in
      record {
        up = omega arith;
        most = omega arith;
        same = r.same;
        fits = r.fits;
        goes = onward-is piece x.state.label x.found x.state m ∙ ap (up_to (λ s. reaches s (drop m piece) m) m) is ∙ sym g;
      }

  -- which of the two, by the length behind the last byte that is kept
  pub comes_never : length_of kept ≡ Err Cut → reaches st (drop i piece) i ≡ reaches (having kept (st.have + (length piece - i))) (drop (i + (length piece - i)) piece) (i + (length piece - i))
  comes_never x = comes_cut st piece i four few more (omega arith) enough (omega arith) fits reaches reaches_bytewise i x

  module _ (l : Result Field NoLength) (is : length_of kept ≡ l) (some : l ≡ Err Cut → ⊥) (e : ℕ) (due : e ≡ max (due_of kept l) (st.have + 1)) where
    pub due_late_enough : 17 ≤ e
    due_late_enough = go l is due some
      where
        go : (l : Result Field NoLength) → length_of kept ≡ l → e ≡ max (due_of kept l) (st.have + 1) → (l ≡ Err Cut → ⊥) → 17 ≤ e
        go (Err Cut) x d s = absurd (s refl)
        go (Err Invalid) x d s = omega (arith, due_none kept)
        go (Ok f) x d s =
            let c = come kept f x in
            by_cases (dec_lt st.limit (st.at + 16 + f.size + f.value)) (λ h. omega (arith, due_late kept f h, c.some)) (λ h. omega (arith, due_fits kept f (omega arith), c.some))

    pub comes_later : st.have + (length piece - i) < e
        → reaches st (drop i piece) i ≡ reaches (having kept (st.have + (length piece - i))) (drop (i + (length piece - i)) piece) (i + (length piece - i))
    comes_later h = go l is due some
      where
        go : (l : Result Field NoLength) → length_of kept ≡ l → e ≡ max (due_of kept l) (st.have + 1) → (l ≡ Err Cut → ⊥)
            → reaches st (drop i piece) i ≡ reaches (having kept (st.have + more)) (drop (i + more) piece) (i + more)
        go (Err Cut) x d s = absurd (s refl)
        go (Err Invalid) x d s = absurd (omega (arith, due_none kept, some-behind x))
          where
            some-behind : length_of kept ≡ Err Invalid → 17 ≤ st.have + few
            some-behind y = by_cases (dec_lt (st.have + few) 17) (λ o. absurd (none-behind kept o y)) (λ o. omega arith)
        go (Ok f) x d s =
            let c = come kept f x in
            by_cases (dec_lt st.limit (st.at + 16 + f.size + f.value)) (λ o. absurd (omega (arith, due_late kept f o, c.behind)))
            (λ o. comes_waits st piece i four few more (omega arith) enough (omega arith) fits reaches reaches_bytewise i f x (omega arith) (omega (arith, due_fits kept f (omega arith))))

    pub comes_now : (w : e ≤ st.have + (length piece - i)) → reaches st (drop i piece) i
        ≡ up_to (λ s. reaches s (drop (i + (e - st.have)) piece) (i + (e - st.have))) (i + (e - st.have)) (turned (having kept e) (turn_of (having kept e)))
    comes_now w = go l is due some
      where
        b : 17 ≤ e
        b = due_late_enough

        go : (l : Result Field NoLength) → length_of kept ≡ l → e ≡ max (due_of kept l) (st.have + 1) → (l ≡ Err Cut → ⊥)
            → reaches st (drop i piece) i ≡ up_to (λ s. reaches s (drop (i + (e - st.have)) piece) (i + (e - st.have))) (i + (e - st.have)) (turned (having kept e) (turn_of (having kept e)))
        go (Err Cut) x d s = absurd (s refl)
        go (Err Invalid) x d s =
            comes_none st piece i four few more (omega arith) enough (omega arith) fits reaches reaches_bytewise i e (omega (arith, due_none kept)) w b x
            (by_cases (dec_lt (st.have + few) 17) (λ o. absurd (none-behind kept o x)) (λ o. omega arith)) (d ∙ rw (due_none kept))
        go (Ok f) x d s =
            by_cases (dec_lt st.limit (st.at + 16 + f.size + f.value))
            (λ o. comes_late st piece i four few more (omega arith) enough (omega arith) fits reaches reaches_bytewise i e (omega arith) w b f x o (d ∙ rw (due_late kept f o)))
            (λ o. comes_record st piece i four few more (omega arith) enough (omega arith) fits reaches reaches_bytewise i e (omega arith) w b f x (omega arith) (d ∙ rw (due_fits kept f (omega arith))))
