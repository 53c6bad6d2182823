-- Where the walk's rules stop, the bytes from there on tell nothing, and this is kept of them. Assumes nothing.
use Rattle.std.specs.Prelude.{Err, Ok, Result}
use Prim.Native.Nat.{ℕ, ◌+◌, ◌-◌, ◌≤◌, ◌<◌}
use mathlib.Core.Path.{◌≡◌, refl, sym, ap, ◌∙◌}
use mathlib.Core.List.{List}
use mathlib.Core.Bool.{true}
use mathlib.Core.Logic.{by_cases}
use native.Mathlib.Omega.{arith}
use native.Mathlib.Decide.{dec_lt}
use borrow.Author.Tests.{le-ltb, lt-ltb}
use lib.ListN.{length, take, drop, length-take, length-drop}
use lib.Seq.{take-length, get_or-take, ext_get_or}
use Rattle.steps.specs.Told.{ToldAt, nothing}
use Rattle.labels.specs.Label.{key_at}
use Rattle.lengths.specs.declared.Field.{Field}
use Rattle.lengths.specs.declared.NoLength.{NoLength}
use Rattle.lengths.specs.declared.NoLength.TheVariants.{Cut}
use Rattle.lengths.specs.Length.{length_at}
use Rattle.lengths.proofs.Laws.{Case, c_past, c_short, c_none, c_cut, c_long, case, taken}
use Rattle.search.specs.Search.{key_before, search_from, wait_from}
use Rattle.search.proofs.Laws.{search_up, key_here, key-within}
use Rattle.search.proofs.Found.{search_holds, key-room}
use Rattle.klv.specs.Item.{Item}
use Rattle.walk.specs.declared.Turn.{Turn}
use Rattle.walk.specs.declared.Turn.TheVariants.{Stop}
use Rattle.walk.proofs.Laws.{Rule, at-end, no_key, cut_off, no_length, whole, waits, late}
use Rattle.fed_states.specs.declared.State.{State}
use Rattle.fed_states.specs.State.{sought, length_of}
use Rattle.steps.specs.Passed.{Passed}
use Rattle.fed_bytes.specs.Feed.{Taken, took}
use Rattle.fed_bytes.specs.Fill.{filled, kept_from}
use Rattle.fed_bytes.proofs.Laws.{turn_cut, takes_none}
use Rattle.fed_bytes.proofs.Prefixes.{cut_back}
use Rattle.fed_bytes.proofs.Filled.{Quiet}
use Rattle.fed_bytes.proofs.Searching.{seeking, seek_key, seek_none-left, none-onward}
use Rattle.fed_bytes.proofs.Records.{come, come-length, come_byte, at_place, takes-behind, quiet_length, quiet_value}

-- a length that is cut has at most eight bytes
few : (x : List ℕ) → length_at x 0 ≡ Err Cut → length x ≤ 8
few x e = go (length_at x 0) (case x 0) e
  where
    go : (l : Result Field NoLength) → Case x 0 l → l ≡ Err Cut → length x ≤ 8
    go l (c_past h) e = omega arith
    go l (c_short h b) e = absurd (let z : ◌≡◌ {A = ℕ} 0 1 = cc in omega arith)
    go l (c_none h b) e = absurd (let z : ◌≡◌ {A = ℕ} 0 1 = cc in omega arith)
    go l (c_cut i b m h k) e = omega arith
    go l (c_long i b m h) e = absurd (let z : ◌≡◌ {A = ℕ} 0 1 = cc in omega arith)

module _ (st : State) (here : ℕ) (l : List ℕ) where
  pub kept-key : (w : ℕ) → search_from l (length l) w < length l
      → kept_from st here l w ≡ filled (sought st (here + search_from l (length l) w) 4) l (search_from l (length l) w + 4) (length l - (search_from l (length l) w + 4))
  unfolding kept_from
  kept-key w h = simp (lt-ltb _ _ h)

  pub kept-none : (w : ℕ) → length l ≤ search_from l (length l) w → kept_from st here l w ≡ sought st (here + wait_from l w) (length l - wait_from l w)
  unfolding kept_from
  kept-none w h = simp (le-ltb _ _ h)

module _ (st : State) (here : ℕ) (l : List ℕ) (n : ℕ) where
  abbrev keeps : ℕ → ToldAt Taken (Passed Item)
  keeps w = nothing (took (kept_from st here l w) (n + length l))

  -- no key from there on
  keeps-none : (w : ℕ) → w ≤ length l → length l ≤ search_from l (length l) w → seeking st here l n w ≡ keeps w
  keeps-none w h m = seek_none-left st here l n w h m ∙ ap (λ (s : State). nothing (took s (n + length l))) (sym (kept-none st here l w m))

  -- a key at r, of which and of what is behind it nothing comes
  keeps-key : (w r : ℕ) → w ≤ length l → search_from l (length l) w ≡ r → (key : key_at l r ≡ true) (start : r + 4 ≤ length l)
      → ((j : ℕ) → j ≤ length l - (r + 4) → 13 ≤ j → Quiet (sought st (here + r) 4) l (r + 4) j) → seeking st here l n w ≡ keeps w
  keeps-key w r h e key start q =
      let m = length l - (r + 4) in
      let z : n + (r + 4) + m ≡ n + length l = omega arith in
      let k : search_from l (length l) w < length l = rw e (omega arith) in
      seek_key st here l n w h k ∙ ap (seeking st here l n) e ∙ takes-behind st here l n r key start m (omega arith) q
      ∙ takes_none (filled (sought st (here + r) 4) l (r + 4) m) l (r + 4 + m) (n + (r + 4) + m) (omega arith)
      ∙ rw z (ap (λ (s : State). nothing (took s (n + length l))) (sym (kept-key st here l w k ∙ rw e)))

  -- fewer than 17 bytes
  keeps-short : (w : ℕ) → w ≤ length l → length l - w < 17 → seeking st here l n w ≡ keeps w
  keeps-short w h m =
      by_cases (dec_lt (search_from l (length l) w) (length l))
      (λ k. let r = search_from l (length l) w in
      let b = search_holds (key_before l (length l)) (length l) w h k in
      let u = key-room l (length l) r b in
      let x = search_up l (length l) w in
      keeps-key w r h refl (key-within l (length l) r u ∙ b) u (λ j o p. absurd (omega arith)))
      (λ k. keeps-none w h (omega arith))

  module _ (w : ℕ) (h : 17 ≤ length l - w) (key : key_at l w ≡ true) where
    here-key : search_from l (length l) w ≡ w
    here-key = sym (key_here l (length l) w (omega arith) key)

    -- a length that is cut
    keeps_cut : length_at l (w + 16) ≡ Err Cut → seeking st here l n w ≡ keeps w
    keeps_cut e = keeps-key w w (omega arith) here-key key (omega arith) (λ j a b. turn_cut (filled (sought st (here + w) 4) l (w + 4) j) (cut_at j a b))
      where
        rest : List ℕ
        rest = drop (w + 16) l

        is_cut : length_at (drop (w + 16) l) 0 ≡ Err Cut
        is_cut = at_place st here l n w key (omega arith) (Err Cut) e

        cut_at : (j : ℕ) → j ≤ length l - (w + 4) → 13 ≤ j → length_of (filled (sought st (here + w) 4) l (w + 4) j) ≡ Err Cut
        cut_at j a b =
            let c = come-length st here l n w key (omega arith) j in
            let d = length-drop (w + 16) l in
            let f = few (drop (w + 16) l) is_cut in
            let t = length-take (4 + j - 16) (drop (w + 16) l) in
            ap (λ (x : List ℕ). length_at x 0)
            (ext_get_or 0 (come st here l n w key (omega arith) j) (take (4 + j - 16) (drop (w + 16) l)) (omega arith)
            (λ i o. come_byte st here l n w key (omega arith) j i (omega arith) (omega arith) ∙ sym (get_or-take (4 + j - 16) (drop (w + 16) l) i 0 (omega arith))))
            ∙ cut_back (drop (w + 16) l) (4 + j - 16) (length (drop (w + 16) l)) (omega arith) (ap (λ (x : List ℕ). length_at x 0) (take-length (drop (w + 16) l)) ∙ is_cut)

    -- a value that is missing
    pub keeps-value : (f : Field) → length_at l (w + 16) ≡ Ok f → length l - (w + 16 + f.size) < f.value → here + w + 16 + f.size + f.value ≤ st.limit → seeking st here l n w ≡ keeps w
    keeps-value f e m v =
        let t = taken l (w + 16) f e in
        keeps-key w w (omega arith) here-key key (omega arith)
        (λ j a b. by_cases (dec_lt j (12 + f.size)) (quiet_length st here l n w key (omega arith) f e j)
        (λ k. quiet_value st here l n w key (omega arith) f e v j (omega arith) (omega (arith, t.there))))

  -- where the rules stop
  pub keeps_stopped : here + length l ≤ st.limit → (w : ℕ) → w ≤ length l → (t : Turn) → t ≡ Stop → Rule (st.limit - here) l (length l) w t → seeking st here l n w ≡ nothing (took (kept_from st here l w) (n + length l))
  keeps_stopped fits w h t x (at-end m) = keeps-short w h m
  keeps_stopped fits w h t x (cut_off m k e) = keeps_cut w m k e
  keeps_stopped fits w h t x (waits m k f e o v) = keeps-value w m k f e o (omega arith)
  keeps_stopped fits w h t x (no_key m k) = absurd (let z : ◌≡◌ {A = ℕ} 0 1 = cc in omega arith)
  keeps_stopped fits w h t x (no_length m k e) = absurd (let z : ◌≡◌ {A = ℕ} 0 1 = cc in omega arith)
  keeps_stopped fits w h t x (whole m k f e o) = absurd (let z : ◌≡◌ {A = ℕ} 0 1 = cc in omega arith)
  keeps_stopped fits w h t x (late m k f e o v) = absurd (let z : ◌≡◌ {A = ℕ} 0 1 = cc in omega arith)

  -- and where a search finds no key
  pub keeps_lost : (q : ℕ) → q ≤ length l → wait_from l q ≤ length l → length l ≤ search_from l (length l) q
      → seeking st here l n (wait_from l q) ≡ nothing (took (kept_from st here l (wait_from l q)) (n + length l))
  keeps_lost q h w m = keeps-none (wait_from l q) w (rw (none-onward l q h m) m)
