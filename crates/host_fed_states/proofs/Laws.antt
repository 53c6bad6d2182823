-- Bytes of a number, put one by one. Assumes nothing.
use Prim.Native.Nat.{ℕ, zero, suc, ◌+◌, ◌*◌, ◌^◌, ◌/◌, ◌%◌, ◌≤◌, ◌<◌}
use mathlib.Core.Path.{◌≡◌, refl, sym, ap, ◌∙◌}
use mathlib.Core.List.{List, [], ◌∷◌, ◌++◌, append-nil, append_assoc}
use native.Mathlib.Nat.{pow-suc, one-le-pow, div-div-eq-div-mul}
use native.Mathlib.Omega.{arith}
use mathlib.Core.Bool.{Bool, true, false, ◌&&◌}
use mathlib.Core.Logic.{by_cases}
use native.Mathlib.Decide.{dec_lt}
use borrow.Author.Tests.{le-leb, lt-leb, leb-true, eqb-true}
use lib.Dec.{leb}
use lib.ListN.{length, get_or, set, take, drop, replicate, get_or-replicate, length-append, drop_of_length-le}
use lib.Arith.{mod-mul}
use lib.Seq.{sets, sets-eq, length-sets, length-take-le, take_at, drop-drop}
use Rattle.std.specs.Int.{to_be_bytes, from_be_bytes}
use mir.Syntax.{w64}
use borrow.Rule.Slice.PartMut.{put_mid}
use Rattle.parts.specs.Number.{number_at}
use Rattle.parts.proofs.Numbers.{number_moved}
use Rattle.parts.proofs.Parts.{part_byte}
use Rattle.labels.specs.Label.{label_at}
use Rattle.fed_states.specs.declared.State.{State}
use Rattle.fed_states.specs.State.{no_label, no_ber, whole_label}
use Rattle.fed_states.proofs.Laws.{and_left, and_right, label-whole, label-cut}
use Rattle.host_numbers.specs.Numbers.{mark}
use Rattle.host_fed_states.specs.Places.{flag, is_marked, bytes_of, eight_put, eight_of, state_places, places_in, flags_put}

pub bytes-length : (n v : ℕ) → length (bytes_of n v) ≡ n
unfolding bytes_of
bytes-length zero v = refl
bytes-length (suc n) v = length-append (bytes_of n (v / 256)) (v % 256 ∷ []) ∙ rw (bytes-length n (v / 256)) (omega arith)

-- the library's bytes of a number, and its number of bytes, the highest first
pub be-bytes : (n : ℕ) → to_be_bytes w64 n ≡ bytes_of 8 n
unfolding bytes_of
be-bytes n = simp div-div-eq-div-mul refl

be-number : (l : List ℕ) → from_be_bytes w64 l ≡ number_at l 0 8
unfolding number_at
be-number l = omega arith

pub be-number_at : (b : List ℕ) (at : ℕ) → from_be_bytes w64 (take 8 (drop at b)) ≡ number_at b at 8
be-number_at b at = be-number (take 8 (drop at b)) ∙ number_moved _ b 0 at 8 (λ j h. let z : 0 + j ≡ j = omega arith in rw z (part_byte b at 8 j h))

-- where there is room for all of them
module _ (n at : ℕ) (l : List ℕ) where
  pub eight-put : at + 8 ≤ length l → eight_put n at l ≡ sets l at (bytes_of 8 n)
  unfolding eight_put
  eight-put h = rw (le-leb _ _ h)

  -- they are the middle of the bytes
  pub eight-mid : (k : ℕ) (ys : List ℕ) → at + 8 ≤ length l → k ≡ 8 → ys ≡ bytes_of 8 n → put_mid at k l ys ≡ eight_put n at l
  eight-mid k ys h q t =
      let long = bytes-length 8 n in
      sym (eight-put h ∙ sets-eq (bytes_of 8 n) l at (omega arith) ∙ append_assoc (take at l) (bytes_of 8 n) _ ∙ rw (drop-drop, long, q, t))

  pub eight_none : length l < at + 8 → l ≡ eight_put n at l
  unfolding eight_put
  eight_none h = rw (lt-leb _ _ h)

-- and the number that they hold there
module _ (b : List ℕ) (at : ℕ) where
  pub eight_there : at + 8 ≤ length b → number_at b at 8 ≡ eight_of b at
  unfolding eight_of
  eight_there h = rw (le-leb _ _ h)

  pub eight_missing : length b < at + 8 → 0 ≡ eight_of b at
  unfolding eight_of
  eight_missing h = rw (lt-leb _ _ h)

-- two numbers' bytes that fill a list are those, one behind the other
pub two_fill : (a b l : List ℕ) → length a + length b ≡ length l → sets (sets l 0 a) (length a) b ≡ a ++ b
two_fill a b l h =
    let n : length (sets l 0 a) ≡ length l = length-sets l 0 a in
    let z : 0 + length a ≡ length a = omega arith in
    sets-eq b (sets l 0 a) (length a) (omega arith)
    ∙ rw (drop_of_length-le (sets l 0 a) {i = length a + length b} (omega arith), sets-eq a l 0 (omega arith), z) (rw append-nil (ap (λ (x : List ℕ). x ++ b) (take_at a (drop (length a) l) (length a) refl)))

pub label-filled : (l : List ℕ) (x y : ℕ) → length l ≡ 16 → eight_put y 8 (eight_put x 0 l) ≡ bytes_of 8 x ++ bytes_of 8 y
label-filled l x y h =
    let a = bytes-length 8 x in
    let b = bytes-length 8 y in
    let n = length-sets l 0 (bytes_of 8 x) in
    rw (eight-put x 0 l (omega arith), eight-put y 8 (sets l 0 (bytes_of 8 x)) (omega arith)) (rw a at (two_fill (bytes_of 8 x) (bytes_of 8 y) l (omega arith)))

-- at the front of more
pub front-filled : (l : List ℕ) (x y : ℕ) → 16 ≤ length l → eight_put y 8 (eight_put x 0 (take 16 l)) ++ drop 16 l ≡ sets l 0 (bytes_of 8 x ++ bytes_of 8 y)
front-filled l x y h =
    let n = length-append (bytes_of 8 x) (bytes_of 8 y) in
    let a = bytes-length 8 x in
    let b = bytes-length 8 y in
    let e : 0 + length (bytes_of 8 x ++ bytes_of 8 y) ≡ 16 = omega arith in
    rw (label-filled (take 16 l) x y (length-take-le 16 l h)) (sym (rw e at (sets-eq (bytes_of 8 x ++ bytes_of 8 y) l 0 (omega arith))))

pub ber-filled : (l : List ℕ) (x y : ℕ) → length l ≡ 9 → eight_put y 1 (sets l 0 (bytes_of 1 x)) ≡ bytes_of 1 x ++ bytes_of 8 y
ber-filled l x y h =
    let a = bytes-length 1 x in
    let b = bytes-length 8 y in
    let n = length-sets l 0 (bytes_of 1 x) in
    rw (eight-put y 1 (sets l 0 (bytes_of 1 x)) (omega arith)) (rw a at (two_fill (bytes_of 1 x) (bytes_of 8 y) l (omega arith)))

pub ber-length : (x y : ℕ) → length (bytes_of 1 x ++ bytes_of 8 y) ≡ 9
ber-length x y = length-append (bytes_of 1 x) (bytes_of 8 y) ∙ rw (bytes-length 1 x, bytes-length 8 y) refl

pub one_byte : (l : List ℕ) (i y : ℕ) → set l i (y % 256) ≡ sets l i (bytes_of 1 y)
unfolding bytes_of
one_byte l i y = refl

-- Flags that are 0 or 1 are as they would be put

module _ (s : List ℕ) (e : is_marked s ≡ true) where
  pub known_marked : mark (flag (get_or s 1 0)) ≡ get_or s 1 0
  unfolding is_marked flag mark
  known_marked =
      let m : get_or s 1 0 ≤ 1 = leb-true _ _ (and_left (leb (get_or s 1 0) 1) _ e) in
      by_cases (dec_lt 0 (get_or s 1 0)) (λ h. let y : get_or s 1 0 ≡ 1 = omega arith in rw y refl) (λ h. let y : get_or s 1 0 ≡ 0 = omega arith in rw y refl)

  pub live-marked : mark (flag (get_or s 2 0)) ≡ get_or s 2 0
  unfolding is_marked flag mark
  live-marked = let y : get_or s 2 0 ≡ 1 = eqb-true _ _ (and_right (leb (get_or s 1 0) 1) _ e) in rw y refl

-- so a state with the same limit and flags is put by its other places
pub placed : (s : List ℕ) → is_marked s ≡ true → (st : State) → st.limit ≡ get_or s 0 0 → st.known ≡ flag (get_or s 1 0) → st.live ≡ flag (get_or s 2 0) → places_in s st ≡ state_places st
placed s e st l k v = sym (rw (l, k, v, known_marked s e, live-marked s e) refl)

-- and so is any, where the flags are put
pub flags_placed : (s : List ℕ) (st : State) → st.limit ≡ get_or s 0 0 → st.known ≡ flag (get_or s 1 0) → st.live ≡ flag (get_or s 2 0) → flags_put (places_in s st) ≡ state_places st
flags_placed s st l k v = sym (rw (l, k, v) refl)

pub marked-put : (st : State) → st.live ≡ true → is_marked (state_places st) ≡ true
unfolding is_marked mark
marked-put st e = rw e (known st.known)
  where
    known : (b : Bool) → leb (mark b) 1 && true ≡ true
    known true = refl
    known false = refl

-- Numbers that bytes of a label hold, or none behind it

pub ber-none : number_at no_ber 1 8 ≡ 0
unfolding number_at
ber-none = refl

pub label-first : number_at no_label 0 8 ≡ 0x060e2b3400000000
unfolding number_at
label-first = refl

pub label-last : number_at no_label 8 8 ≡ 0
unfolding number_at
label-last = refl

number-none : (s : List ℕ) (from n : ℕ) → ((j : ℕ) → j < n → get_or s (from + j) 0 ≡ 0) → number_at s from n ≡ 0
unfolding number_at
number-none s from zero h = refl
number-none s from (suc n) h = rw (number-none s from n (λ j k. h j (omega arith)), h n (omega arith)) (omega arith)

module _ (b : List ℕ) (at n : ℕ) (h : n ≤ 8) where
  pub half_whole : at + 16 ≤ length b → number_at b (at + n) 8 ≡ number_at (whole_label b at) n 8
  half_whole m =
      rw (label-whole b at m)
      (sym (number_moved (label_at b at) b n (at + n) 8 (λ j k. let e : at + (n + j) ≡ at + n + j = omega arith in part_byte b at 16 (n + j) (omega arith) ∙ rw e)))

  pub half_cut : length b < at + 16 → 0 ≡ number_at (whole_label b at) n 8
  half_cut m = rw (label-cut b at m) (sym (number-none (replicate 16 0) n 8 (λ j k. get_or-replicate {A = ℕ} 16 (n + j) 0 0 (omega arith))))

-- The number that a number's bytes hold, where others stand around them

byte_behind : (a m : List ℕ) (x : ℕ) (b : List ℕ) → get_or (a ++ (m ++ (x ∷ b))) (length a + length m) 0 ≡ x
byte_behind [] [] x b = refl
byte_behind [] (y ∷ m) x b = let z : 0 + suc (length m) ≡ suc (0 + length m) = omega arith in rw z (byte_behind [] m x b)
byte_behind (y ∷ a) m x b = let z : suc (length a) + length m ≡ suc (length a + length m) = omega arith in rw z (byte_behind a m x b)

pub number-bytes : (n v : ℕ) (a b : List ℕ) → number_at (a ++ (bytes_of n v ++ b)) (length a) n ≡ v % 256 ^ n
unfolding number_at bytes_of
number-bytes zero v a b = omega arith
number-bytes (suc n) v a b =
    let d = sym (mod-mul v {m = 256 ^ n} {c = 256} (one-le-pow n 256 (omega arith)) (omega arith)) ∙ ap (λ (x : ℕ). v % x) (sym (pow-suc 256 n)) in
    let p = append_assoc (bytes_of n (v / 256)) (v % 256 ∷ []) b in
    let l = bytes-length n (v / 256) in
    let q : get_or (a ++ (bytes_of n (v / 256) ++ (v % 256 ∷ b))) (length a + n) 0 ≡ v % 256 = rw l at (byte_behind a (bytes_of n (v / 256)) (v % 256) b) in
    ap (λ (x : List ℕ). number_at (a ++ x) (length a) n * 256 + get_or (a ++ x) (length a + n) 0) p
    ∙ rw (number-bytes n (v / 256) a (v % 256 ∷ b), q) d

module _ (x y : ℕ) where
  pub first-number : x < 2 ^ 64 → number_at (bytes_of 8 x ++ bytes_of 8 y) 0 8 ≡ x
  first-number h = number-bytes 8 x [] (bytes_of 8 y) ∙ omega arith

  pub last-number : (n : ℕ) → y < 2 ^ 64 → number_at (bytes_of n x ++ bytes_of 8 y) n 8 ≡ y
  last-number n h = (rw (append-nil, bytes-length n x) at (number-bytes 8 y (bytes_of n x) [])) ∙ omega arith

  pub lead_byte : get_or (bytes_of 1 x ++ bytes_of 8 y) 0 0 ≡ x % 256
  unfolding bytes_of
  lead_byte = refl
