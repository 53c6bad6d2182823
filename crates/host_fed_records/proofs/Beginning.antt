-- How a call begins: a piece is refused, a search starts, or a record comes before one. Assumes nothing.
use Prim.Native.Nat.{ℕ, ◌+◌, ◌*◌, ◌<◌}
use mathlib.Core.Path.{◌≡◌, refl, sym, ap, ◌∙◌}
use mathlib.Core.List.{List}
use mathlib.Core.Logic.{by_cases}
use native.Mathlib.Decide.{dec_lt}
use native.Mathlib.Omega.{arith}
use lib.ListN.{length, get_or}
use lib.Seq.{sets}
use Rattle.steps.specs.Told.{ToldAt, found, nothing, refused, number}
use Rattle.steps.specs.Passed.{Passed}
use Rattle.klv.specs.Item.{Item}
use Rattle.fed_states.specs.declared.State.{State}
use Rattle.fed_states.specs.State.{sought}
use Rattle.fed_states.proofs.Laws.{sound_within}
use Rattle.fed_bytes.specs.Feed.{Taken, took, feed_of}
use Rattle.fed_bytes.proofs.Laws.{takes_none, takes_same}
use Rattle.fed.proofs.Starting.{starts_zero, starts-eats}
use Rattle.fed.proofs.Reaching.{Searching}
use Rattle.fed_pieces.specs.Pieces.{refusal_of, behind, feed_on, Fits}
use Rattle.fed_pieces.proofs.Laws.{feeds, number-refusal, refusal-none, taken-fits}
use Rattle.fed_pieces.proofs.Told.{Further, further}
use Rattle.host_records.specs.Batch.{places_each, record_put}
use Rattle.host_fed_states.specs.Places.{state_places}
use Rattle.host_fed_records.specs.Many.{ends, Ran, Ended, Answered}
use Rattle.host_fed_records.specs.Begun.{Starts}
use Rattle.host_fed_records.proofs.Putting.{ran-start, ran_on, ran-next, ran-same, Done, ran-full, ran_rests, ran_over}
use Rattle.host_fed_records.proofs.Answers.{is-refused, is-taken}

-- a search starts at the state that is put
pub begun-starts : (st : State) (piece : List ℕ) (most : ℕ) (rs ls rs' ls' : List ℕ) (p q : State) (i n : ℕ) → q ≡ p → Starts st piece most q i n rs ls rs' ls' → Starts st piece most p i n rs ls rs' ls'
begun-starts st piece most rs ls rs' ls' p q i n z x = rw z at x

module _ (st : State) (piece : List ℕ) where
  -- feeding what is left of a piece of which nothing has been taken is feeding it
  whole : feed_on piece (took st 0) ≡ feed_of st piece
  unfolding feed_on behind
  whole = go (feed_of st piece)
    where
      go : (t : ToldAt Taken (Passed Item)) → behind 0 t ≡ t
      go (found a k) = let z : 0 + k.taken ≡ k.taken = omega arith in rw z
      go (nothing k) = let z : 0 + k.taken ≡ k.taken = omega arith in rw z
      go (refused n k) = let z : 0 + k.taken ≡ k.taken = omega arith in rw z

  module _ (most : ℕ) (state rs ls out : List ℕ) where
    -- A piece that is refused
    pub begun-refused : (n : ℕ) (k : Taken) → refused n k ≡ feed_of st piece → (n ≡ 0 → ⊥) → Answered st piece most state rs ls out n state rs ls out
    unfolding number
    begun-refused n k e z = is-refused st piece most state rs ls out n (ap (λ (t : ToldAt Taken (Passed Item)). number t) e ∙ number-refusal st piece) z

    -- one that is taken, whose records were put
    module _ (taken : number (feed_of st piece) ≡ 0) where
      not-refused : 0 ≡ refusal_of st (length piece)
      not-refused = sym taken ∙ number-refusal st piece

      pub fits : Fits piece st.limit (took st 0)
      fits = taken-fits st piece (sym not-refused)

      pub done-answers : {rs' ls' : List ℕ} (e : Taken) (m : ℕ) → Done piece most (took st 0) rs ls e m rs' ls' → Answered st piece most state rs ls out 0 (state_places e.state) rs' ls' (ends m e.taken)
      done-answers e m d = is-taken st piece most state rs ls out 0 not-refused refl e m d.end d.count d.records d.labels

      -- the last part of the call
      pub ended_answers : {q : Taken} {n : ℕ} {rs₁ ls₁ rs' ls' s o : List ℕ} → Ran piece most (took st 0) 0 rs ls q n rs₁ ls₁ → Ended piece most q n rs₁ ls₁ rs' ls' s o
          → Answered st piece most state rs ls out 0 s rs' ls' o
      ended_answers r e = rw (e.state-put, e.out_put) (done-answers e.end e.count (ran_over piece most (ran_on piece most r e.ran) e.end e.over))

    -- nothing comes of it
    pub begun-nothing : (t : State) (n : ℕ) → 0 < most → nothing (took t n) ≡ feed_of st piece → Answered st piece most state rs ls out 0 (state_places t) rs ls (ends 0 n)
    unfolding number
    begun-nothing t n h e =
        let z : number (feed_of st piece) ≡ 0 = sym (ap (λ (y : ToldAt Taken (Passed Item)). number y) e) in
        done-answers z (took t n) 0 (ran_rests piece most (ran-start piece most (took st 0) 0 rs ls (omega arith)) h (took t n) (rw (whole ∙ sym e) refl))

    -- A search starts
    pub starts_search : (s : State) (i : ℕ) → 0 < most → Searching st piece s i → Starts st piece most (sought s (s.at + s.have) 0) i 0 rs ls rs ls
    starts_search s i h x =
        let there : Fits piece s.limit (took (sought s (s.at + s.have) 0) i)
        = record { live = x.live; same = refl; most = omega (arith, x.inside); within = omega (arith, x.fits, x.same) } in
        record {
          taken = number-refusal st piece ∙ sym (refusal-none st (sound_within st x.alive (omega (arith, x.may))) (length piece) (omega (arith, x.may)));
          fits = there;
          inside = x.inside;
          room = h;
          ran = ran-same piece most (took st 0) 0 rs ls h (took (sought s (s.at + s.have) 0) i) (whole ∙ sym x.is ∙ sym (feeds piece s.limit (took (sought s (s.at + s.have) 0) i) there));
        }

    pub starts_from : (at i : ℕ) → 0 < most → Searching st piece (sought st at 0) i → Starts st piece most (sought st at 0) i 0 rs ls rs ls
    starts_from at i h x = let z : at + 0 ≡ at = omega arith in rw z at (starts_search (sought st at 0) i h x)

    -- A record comes
    module _ (a : Passed Item) (t : State) (n : ℕ) (h : 0 < most) (e : found a (took t n) ≡ feed_of st piece) where
      told : feed_on piece (took st 0) ≡ found a (took t n)
      told = whole ∙ sym e

      none-refused : number (feed_of st piece) ≡ 0
      unfolding number
      none-refused = sym (ap (λ (x : ToldAt Taken (Passed Item)). number x) e)

      on : Further piece st.limit (took st 0) (took t n)
      on = further piece st.limit (took st 0) (took t n) a told (fits none-refused)

      fits_on : Fits piece t.limit (took t n)
      fits_on = record { live = on.fits.live; same = refl; most = on.fits.most; within = omega (arith, on.fits.within, on.fits.same) }

      abbrev rs₁ : List ℕ
      rs₁ = record_put a.it.klv a.passed (places_each * 0) rs

      abbrev ls₁ : List ℕ
      ls₁ = sets ls (16 * 0) a.it.key

      put : Ran piece most (took st 0) 0 rs ls (took t n) 1 rs₁ ls₁
      put = ran-next piece most (took st 0) 0 rs ls h a (took t n) told

      -- the room is full, or nothing is left
      pub begun-over : (1 < most → n < length piece → ⊥) → Answered st piece most state rs ls out 0 (state_places t) rs₁ ls₁ (ends 1 n)
      begun-over stop =
          done-answers none-refused (took t n) 1
          (by_cases (dec_lt 1 most)
          (λ m. ran_rests piece most put m (took t n)
          (rw (feeds piece t.limit (took t n) fits_on ∙ takes_none t piece n n (by_cases (dec_lt n (length piece)) (λ k. absurd (stop m k)) (λ k. omega arith))) refl))
          (λ m. ran-full piece most put (omega arith)))

      -- or a search starts behind it
      pub starts-behind : n < length piece → 1 < most → Starts st piece most (sought t t.at 0) n 1 rs ls rs₁ ls₁
      starts-behind k m =
          let none : t.have ≡ 0 = ap (λ (x : State). x.have) on.gone in
          let there : Fits piece t.limit (took (sought t t.at 0) n)
          = record { live = on.fits.live; same = refl; most = on.fits.most; within = omega (arith, fits_on.within) } in
          let at : t.at + t.have ≡ t.at = omega (arith, none) in
          record {
            taken = none-refused;
            fits = there;
            inside = k;
            room = m;
            ran = ran_on piece most put
                (ran-same piece most (took t n) 1 rs₁ ls₁ m (took (sought t t.at 0) n)
                (feeds piece t.limit (took t n) fits_on
                ∙ sym (takes_same t piece n n k (sought t t.at 0) (rw at at (starts-eats t (get_or piece n 0) (starts_zero t.have (get_or piece n 0) none))))
                ∙ sym (feeds piece t.limit (took (sought t t.at 0) n) there)));
          }
