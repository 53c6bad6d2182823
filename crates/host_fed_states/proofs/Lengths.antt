-- The length that nine bytes begin with, by the two numbers that hold them. Assumes nothing.
use Rattle.std.specs.Prelude.{Err, Ok}
use Prim.Native.Nat.{ℕ, zero, suc, ◌+◌, ◌-◌, ◌*◌, ◌^◌, ◌/◌, ◌%◌, ◌≤◌, ◌<◌}
use mathlib.Core.Path.{◌≡◌, refl, sym, ap, ◌∙◌}
use mathlib.Core.Bool.{Bool, true}
use mathlib.Core.List.{List, [], ◌∷◌, ◌++◌, append-nil, append_assoc}
use mathlib.Core.Logic.{by_cases}
use native.Mathlib.Decide.{dec_lt}
use native.Mathlib.Nat.{pow-suc, pow-succ', one-le-pow, mod-eq_of_lt, div-div-eq-div-mul, div-lt_iff_lt-mul, le-div_iff_mul-le}
use native.Mathlib.Omega.{arith}
use borrow.Author.Tests.{le-leb, lt-leb}
use lib.Dec.{leb}
use lib.ListN.{length, get_or}
use lib.Pow.{pow-add}
use Rattle.parts.specs.Number.{number_at}
use Rattle.lengths.specs.declared.NoLength.TheVariants.{Invalid}
use Rattle.lengths.specs.Length.{bound_of, shortest_of, field, length_at}
use Rattle.lengths.proofs.Laws.{shortest_eighty, shortest_else, shortest-two, held, short_read, no_length, more}
use Rattle.host_fed_states.specs.Places.{bytes_of}
use Rattle.host_fed_states.proofs.Laws.{bytes-length, ber-length, number-bytes}

-- the first of a number's bytes, and the others
bytes_split : (n k v : ℕ) → bytes_of (n + k) v ≡ bytes_of n (v / 256 ^ k) ++ bytes_of k v
unfolding bytes_of
bytes_split n zero v =
    let a : n + 0 ≡ n = omega arith in
    let b : v / 256 ^ 0 ≡ v = omega arith in
    rw (a, b, append-nil) refl
bytes_split n (suc k) v =
    let a : n + suc k ≡ suc (n + k) = omega arith in
    let b : v / 256 / 256 ^ k ≡ v / 256 ^ suc k = div-div-eq-div-mul v 256 (256 ^ k) ∙ ap (λ (x : ℕ). v / x) (sym (pow-succ' 256 k)) in
    rw (a, bytes_split n k (v / 256), b) (append_assoc (bytes_of n (v / 256 ^ suc k)) (bytes_of k (v / 256)) (v % 256 ∷ []))

-- to shift twice by four bits for each of k bytes is to take off k bytes
eights : (k : ℕ) → 2 ^ (8 * k) ≡ 256 ^ k
eights zero = refl
eights (suc k) =
    let a : 8 * suc k ≡ 8 * k + 8 = omega arith in
    ap (λ (m : ℕ). 2 ^ m) a ∙ pow-add 2 (8 * k) 8 ∙ ap (λ (m : ℕ). m * 256) (eights k) ∙ sym (pow-suc 256 k)

shifted : (v m : ℕ) → v / 2 ^ (4 * m) / 2 ^ (4 * m) ≡ v / 256 ^ m
shifted v m =
    let a : 4 * m + 4 * m ≡ 8 * m = omega arith in
    div-div-eq-div-mul v (2 ^ (4 * m)) (2 ^ (4 * m)) ∙ ap (λ (x : ℕ). v / x) (sym (pow-add 2 (4 * m) (4 * m)) ∙ ap (λ (x : ℕ). 2 ^ x) a ∙ eights m)

leb_over : (a c r : ℕ) → zero < c → leb a (r / c) ≡ leb (a * c) r
leb_over a c r p =
    by_cases (dec_lt r (a * c)) (λ h. lt-leb _ _ ((div-lt_iff_lt-mul {k = c} {x = r} {y = a} p).1 h) ∙ sym (lt-leb _ _ h))
    (λ h. let m : a * c ≤ r = omega arith in le-leb _ _ ((le-div_iff_mul-le {k = c} {x = a} {y = r} p).1 m) ∙ sym (le-leb _ _ m))

module _ (lead eight : ℕ) where
  abbrev nine : List ℕ
  nine = bytes_of 1 lead ++ bytes_of 8 eight

  abbrev first : ℕ
  first = lead % 256

  first_byte : get_or nine 0 0 ≡ first
  unfolding bytes_of
  first_byte = refl

  there : 0 < length nine
  there = omega (arith, ber-length lead eight)

  pub length-short : first < 0x80 → Ok (record { value = first; size = 1; shortest = true }) ≡ length_at nine 0
  length-short b = sym (rw first_byte at (short_read nine 0 there (rw first_byte b)))

  pub length_none : 0x88 < first → (Err Invalid) ≡ length_at nine 0
  length_none b = sym (no_length nine 0 there (rw first_byte b))

  module _ (h : eight < 2 ^ 64) (low : 0x80 ≤ first) (high : first ≤ 0x88) where
    abbrev n : ℕ
    n = first - 0x80

    abbrev value : ℕ
    value = eight / 2 ^ (32 - 4 * n) / 2 ^ (32 - 4 * n)

    abbrev k : ℕ
    k = 8 - n

    value-is : value ≡ eight / 256 ^ k
    value-is = let a : 32 - 4 * n ≡ 4 * k = omega arith in ap (λ (x : ℕ). eight / 2 ^ x / 2 ^ x) a ∙ shifted eight k

    -- what n of the eight hold
    value-number : value ≡ number_at nine 1 n
    value-number =
        let e : n + k ≡ 8 = omega arith in
        let p : zero < 256 ^ k = one-le-pow k 256 (omega arith) in
        let a : 256 ^ n * 256 ^ k ≡ 2 ^ 64 = sym (pow-add 256 n k) ∙ ap (λ (x : ℕ). 256 ^ x) e in
        let m : eight / 256 ^ k < 256 ^ n = (div-lt_iff_lt-mul {k = 256 ^ k} {x = eight} {y = 256 ^ n} p).1 (rw a h) in
        let b : bytes_of 8 eight ≡ bytes_of n (eight / 256 ^ k) ++ bytes_of k eight = ap (λ (x : ℕ). bytes_of x eight) (sym e) ∙ bytes_split n k eight in
        value-is
        ∙ sym (ap (λ (l : List ℕ). number_at (bytes_of 1 lead ++ l) 1 n) b ∙ (rw (bytes-length 1 lead) at (number-bytes n (eight / 256 ^ k) (bytes_of 1 lead) (bytes_of k eight))) ∙ mod-eq_of_lt m)

    length-long : (b : Bool) → b ≡ shortest_of first (1 + n) value → Ok (record { value = value; size = 1 + n; shortest = b }) ≡ length_at nine 0
    length-long b s =
        rw s
        (ap (λ (x : ℕ). Ok (field first (1 + n) x)) value-number ∙ sym (held (field first (1 + n)) nine 1 n (omega (arith, ber-length lead eight)))
        ∙ sym (rw first_byte at (more nine 0 there (rw first_byte low) (rw first_byte high))))

    -- where one byte more, or none, holds it
    pub length-few : n < 2 → Ok (record { value = value; size = 1 + n; shortest = leb 0x80 value }) ≡ length_at nine 0
    length-few m =
        by_cases (dec_lt 0x80 first)
        (λ o. length-long (leb 0x80 value) (sym (shortest-two first n value (λ z. omega arith) (omega arith))))
        (λ o. let z : k ≡ 8 = omega arith in
        let y : eight / 256 ^ 8 ≡ 0 = omega arith in
        let x : value ≡ 0 = value-is ∙ rw z y in
        length-long (leb 0x80 value) (lt-leb 0x80 value (omega arith) ∙ sym (shortest_eighty first value (1 + n) (omega arith))))

    -- where more do: the first of them is left, with the others shifted out
    abbrev left : ℕ
    left = value / 2 ^ (4 * n - 4) / 2 ^ (4 * n - 4)

    pub length_more : 2 ≤ n → Ok (record { value = value; size = 1 + n; shortest = leb 1 left }) ≡ length_at nine 0
    unfolding bound_of
    length_more m =
        let j = n - 2 in
        let e : n ≡ suc (suc j) = omega arith in
        let a : 4 * n - 4 ≡ 4 * suc j = omega arith in
        let o : 1 * 256 ^ suc j ≡ 256 ^ suc j = omega arith in
        length-long (leb 1 left)
        (ap (λ (x : ℕ). leb 1 (value / 2 ^ x / 2 ^ x)) a ∙ ap (λ (x : ℕ). leb 1 x) (shifted value (suc j)) ∙ leb_over 1 (256 ^ suc j) value (one-le-pow (suc j) 256 (omega arith)) ∙ ap (λ (x : ℕ). leb x value) o
        ∙ sym (shortest_else first value n (λ z. omega arith) ∙ ap (λ (x : ℕ). leb (bound_of x) value) e))
