-- A piece that starts with a key: its length, and what comes of it. Assumes nothing.
use Rattle.std.specs.Prelude.{Err, Ok, Result}
use Prim.Native.Nat.{ℕ, ◌+◌, ◌-◌, ◌≤◌, ◌<◌}
use mathlib.Core.Path.{◌≡◌, refl, sym, ap, ◌∙◌}
use mathlib.Core.Bool.{true}
use mathlib.Core.List.{List, ◌++◌}
use native.Mathlib.Omega.{arith}
use lib.ListN.{length, get_or, take, drop, length-drop}
use lib.Seq.{take-add, take-length, drop-drop}
use Rattle.parts.specs.Bytes.{Bytes}
use Rattle.parts.specs.Number.{number_at}
use Rattle.labels.specs.Label.{key_at, label_at}
use Rattle.lengths.specs.declared.Field.{Field}
use Rattle.lengths.specs.declared.NoLength.{NoLength}
use Rattle.lengths.specs.declared.NoLength.TheVariants.{Cut, Invalid}
use Rattle.lengths.specs.Length.{length_at}
use Rattle.lengths.proofs.Laws.{taken}
use Rattle.steps.specs.Told.{found, nothing}
use Rattle.fed_states.specs.declared.State.{State}
use Rattle.fed_states.specs.State.{gone_on}
use Rattle.fed_states.proofs.Laws.{label-whole}
use Rattle.fed_bytes.specs.Feed.{took, feed_of}
use Rattle.fed_bytes.proofs.Moved.{length_moved}
use Rattle.fed_bytes.proofs.Prefixes.{length_back, cut_back, none_back}
use Rattle.fed_bytes.proofs.Searching.{seeking}
use Rattle.fed_bytes.proofs.Keeping.{keeps-value}
use Rattle.fed_bytes.proofs.Records.{takes-value}
use Rattle.fed.specs.Parts.{starts_of, breaks_of, searches_of, rest_of}
use Rattle.fed.proofs.Breaking.{breaks-at, searches_in, searched}
use Rattle.fed.proofs.Reaching.{rest-sought}
use Rattle.host_fed_states.specs.declared.Value.{Value}
use Rattle.host_fed_states.specs.Places.{is_marked, bytes_of, eight_of, state_of, state_places, places_of, seeking_of}
use Rattle.host_fed_states.proofs.Laws.{eight_there, placed, ber-none, half_whole}
use Rattle.host_fed_states.proofs.Read.{bytes_back, one_byte}
use Rattle.host_fed_states.proofs.Kept.{rest-same, rest-key}
use Rattle.host_fed_states.proofs.Values.{Begins}

-- The length that nine of them begin with is the one at their place
pub length-nine : (l : List ℕ) (p : ℕ) → Bytes l → p + 9 ≤ length l → length_at (bytes_of 1 (get_or l p 0) ++ bytes_of 8 (number_at l (p + 1) 8)) 0 ≡ length_at l p
length-nine l p b h =
    let s = b p in
    let a : bytes_of 1 (get_or l p 0) ≡ take 1 (drop p l) = ap (bytes_of 1) (one_byte l p) ∙ bytes_back l p 1 b (omega arith) in
    ap (λ (x : List ℕ). length_at x 0)
    (rw (a, bytes_back l (p + 1) 8 b (omega arith)) (ap (λ (x : List ℕ). take 1 (drop p l) ++ take 8 x) (sym (drop-drop 1 p l)) ∙ sym (take-add 1 8 (drop p l))))
    ∙ front (length_at (take (length (drop p l)) (drop p l)) 0) refl
    ∙ ap (λ (x : List ℕ). length_at x 0) (take-length (drop p l))
    ∙ length_moved p l 0 ∙ ap (length_at l) z
  where
    z : p + 0 ≡ p
    z = omega arith

    front : (x : Result Field NoLength) → length_at (take (length (drop p l)) (drop p l)) 0 ≡ x → length_at (take 9 (drop p l)) 0 ≡ length_at (take (length (drop p l)) (drop p l)) 0
    front (Ok f) e = let k = length-drop p l in length_back (drop p l) 9 (length (drop p l)) (omega arith) f e (taken _ _ f e).most ∙ sym e
    front (Err Cut) e = let k = length-drop p l in cut_back (drop p l) 9 (length (drop p l)) (omega arith) e ∙ sym e
    front (Err Invalid) e = let k = length-drop p l in none_back (drop p l) 9 (length (drop p l)) (omega arith) e (omega arith) ∙ sym e

-- What comes of it
module _ (st : State) (piece : List ℕ) (v : Value) (t : Begins st piece v) where
  -- feeding goes as a search from its first byte on
  starts : starts_of st.have (get_or piece 0 0) ≡ true
  unfolding starts_of
  starts = rw t.none

  feeds : seeking st st.at piece 0 0 ≡ feed_of st piece
  feeds =
      let h : 0 < length piece = omega (arith, t.many) in
      let a : st.at + st.have + length piece ≤ st.limit = omega (arith, t.may, t.none) in
      let b : 0 + breaks_of st.have (drop 0 piece) ≡ 0 = breaks-at st.have piece 0 h (omega (arith, t.none)) starts in
      let k : 0 ≡ searches_of st.live st.limit st.at st.have piece = omega (arith, b, searches_in st.live st.limit st.at st.have piece t.alive a) in
      let z : st.at + st.have + 0 + 0 ≡ st.at + 0 = omega (arith, t.none) in
      rw z at (searched st piece 0 k h).is

  -- nothing, and it is kept
  pub begins-nothing : length piece < v.due → nothing (took (rest_of (seeking_of st st.at st.since) piece 0) (length piece)) ≡ feed_of st piece
  begins-nothing h =
      let d = t.due in
      let r = taken piece 16 t.f t.length in
      let z : 0 + length piece ≡ length piece = omega arith in
      ap (λ (s : State). nothing (took s (length piece))) (sym (rest-sought st st.at piece 0 t.may (omega arith)))
      ∙ sym (rw z at (keeps-value st st.at piece 0 0 (omega (arith, t.many)) t.key t.f t.length (omega (arith, r.there)) (omega (arith, t.fits))))
      ∙ feeds

  -- or its record
  pub begins_record : v.due ≤ length piece
      → found (record { it = record { klv = v.klv; key = label_at piece 0 }; passed = v.klv.at - st.since }) (took (gone_on st v.next (label_at piece 0)) v.due) ≡ feed_of st piece
  begins_record h =
      let d = t.due in
      let n : v.next ≡ st.at + 16 + t.f.size + t.f.value = omega (arith, t.next) in
      let u : v.due ≡ 0 + (16 + t.f.size + t.f.value) = omega arith in
      let z : st.at + 0 ≡ st.at = omega arith in
      rw (t.klv, n, u)
      (rw z at (sym (takes-value st st.at piece 0 0 t.key (omega (arith, t.many)) (omega (arith, t.many)) t.f t.length (16 + t.f.size) refl (omega (arith, t.fits)) (omega arith)) ∙ feeds))

-- What is put: all that is kept of the piece, or the place behind the record
module _ (s piece : List ℕ) (e : is_marked s ≡ true) (many : 25 ≤ length piece) where
  abbrev st : State
  st = state_of s

  -- the numbers that a key holds, and all that is kept behind it
  pub record Numbers (first last : ℕ) : Type 0 where
    pub first-is : first ≡ eight_of piece 0
    pub last-is : last ≡ eight_of piece 8

  eight : (at n : ℕ) → n ≡ eight_of piece at → at + 8 ≤ length piece → n ≡ number_at piece at 8
  eight at n e h = e ∙ sym (eight_there piece at h)

  module _ (first last : ℕ) (n : Numbers first last) where
    pub key-kept : (at lead more : ℕ) → at ≡ st.at → lead ≡ get_or piece 16 0 → more ≡ eight_of piece 17 → key_at piece 0 ≡ true → st.at + length piece ≤ st.limit
        → places_of s at (length piece) st.since first last lead more ≡ state_places (rest_of (seeking_of st st.at st.since) piece 0)
    key-kept at lead more i j o k m =
        let z : st.at + 0 ≡ st.at = omega arith in
        let u : length piece - 0 ≡ length piece = omega arith in
        let r = rest-same (seeking_of st st.at st.since) piece 0 in
        rw (i, j, eight 0 first n.first-is (omega arith), eight 8 last n.last-is (omega arith), eight 17 more o (omega arith)) (rw (z, u) at (rest-key st st.at st.since piece 0 m (omega arith) (omega arith) k s))
        ∙ placed s e (rest_of (seeking_of st st.at st.since) piece 0) r.limit r.known r.live

    pub key-past : (next : ℕ) → places_of s next 0 next first last 0 0 ≡ state_places (gone_on st next (label_at piece 0))
    key-past next =
        let x = half_whole piece 0 0 (omega arith) (omega arith) in
        let y = half_whole piece 0 8 (omega arith) (omega arith) in
        rw (eight 0 first n.first-is (omega arith), eight 8 last n.last-is (omega arith)) (rw (sym (label-whole piece 0 (omega arith)), sym x, sym y, ber-none) refl) ∙ placed s e (gone_on st next (label_at piece 0)) refl refl refl
