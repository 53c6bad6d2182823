-- Laws of narrowing by quarters. Assumes nothing.
use Prim.Native.Nat.{ℕ, zero, suc, ◌+◌, ◌-◌, ◌*◌, ◌/◌, ◌≤◌, ◌<◌, ◌^◌}
use mathlib.Core.Path.{◌≡◌, refl, sym, ◌∙◌}
use mathlib.Core.Bool.{Bool, true, false}
use mathlib.Core.Logic.{by_cases}
use native.Mathlib.Omega.{arith}
use native.Mathlib.Decide.{dec_lt}
use borrow.Author.Tests.{lt-ltb, le-ltb}
use Rattle.index.specs.Lists.{one, of_three, of_few, narrow}

pub one-most : (b : Bool) → one b ≤ 1
unfolding one
one-most true = omega arith
one-most false = omega arith

pub one_true : (b : Bool) → b ≡ true → 1 ≡ one b
unfolding one
one_true b e = rw e

pub one_false : (b : Bool) → b ≡ false → 0 ≡ one b
unfolding one
one_false b e = rw e

module _ (t : ℕ → Bool) where
  pub few-none : (at : ℕ) → 0 ≡ of_few t at 0
  unfolding of_few
  few-none at = refl

  pub few-more : (at n : ℕ) → of_few t at n + one (t (at + n)) ≡ of_few t at (suc n)
  unfolding of_few
  few-more at n = refl

  pub few-most : (at n : ℕ) → of_few t at n ≤ n
  unfolding of_few
  few-most at zero = omega arith
  few-most at (suc n) = omega (arith, few-most at n, one-most (t (at + n)))

  pub narrow-few : (f at n : ℕ) → n < 4 → narrow t f at n ≡ at + of_few t at n
  unfolding narrow
  narrow-few zero at n h = refl
  narrow-few (suc f) at n h = rw (lt-ltb _ _ h)

  narrow_turn : (f at n : ℕ) → 4 ≤ n → narrow t (suc f) at n ≡ narrow t f (at + of_three t at (n / 4) * (n / 4)) (n - 3 * (n / 4))
  unfolding narrow
  narrow_turn f at n h = rw (le-ltb _ _ h)

  enough : (f g at n : ℕ) → n ≤ f → n ≤ g → narrow t f at n ≡ narrow t g at n
  enough zero g at n h k = narrow-few zero at n (omega arith) ∙ sym (narrow-few g at n (omega arith))
  enough (suc f) zero at n h k = narrow-few (suc f) at n (omega arith) ∙ sym (narrow-few zero at n (omega arith))
  enough (suc f) (suc g) at n h k =
      by_cases (dec_lt n 4) (λ l. narrow-few (suc f) at n l ∙ sym (narrow-few (suc g) at n l))
      (λ l.
      narrow_turn f at n (omega arith) ∙ enough f g (at + of_three t at (n / 4) * (n / 4)) (n - 3 * (n / 4)) (omega arith) (omega arith)
      ∙ sym (narrow_turn g at n (omega arith)))

  -- the loop, turn by turn, with fuel f
  pub turn : (f at n : ℕ) → n ≤ f → 4 ≤ n → narrow t f at n ≡ narrow t f (at + of_three t at (n / 4) * (n / 4)) (n - 3 * (n / 4))
  turn f at n h k = enough f (suc f) at n h (omega arith) ∙ narrow_turn f at n k

  -- so many turns of three tests each are enough for four times as many places as one turn less
  pub logarithmic : (f at n : ℕ) → n ≤ 4 ^ f + 3 → narrow t (suc f) at n ≡ narrow t n at n
  logarithmic zero at n h =
      by_cases (dec_lt n 4) (λ l. narrow-few 1 at n l ∙ sym (narrow-few n at n l))
      (λ l.
      let m : n - 3 * (n / 4) < 4 = omega arith in
      narrow_turn 0 at n (omega arith) ∙ narrow-few 0 _ _ m ∙ sym (turn n at n (omega arith) (omega arith) ∙ narrow-few n _ _ m))
  logarithmic (suc f) at n h =
      by_cases (dec_lt n 4) (λ l. narrow-few (suc (suc f)) at n l ∙ sym (narrow-few n at n l))
      (λ l.
      let d : ℕ = n - 3 * (n / 4) in
      let p : ℕ = at + of_three t at (n / 4) * (n / 4) in
      narrow_turn (suc f) at n (omega arith) ∙ logarithmic f p d (omega arith) ∙ enough d n p d (omega arith) (omega arith)
      ∙ sym (turn n at n (omega arith) (omega arith)))

  -- What it finds, where the test holds up to somewhere and no further
  module _ (n : ℕ) (falls : (i j : ℕ) → i ≤ j → j < n → t j ≡ true → t i ≡ true) where
    pub record Parts (r : ℕ) : Type 0 where
      pub within : r ≤ n
      pub below : (i : ℕ) → i < r → t i ≡ true
      pub above : (i : ℕ) → r ≤ i → i < n → t i ≡ false

    -- all before a place pass, and none from another on
    record Between (at m : ℕ) : Type 0 where
      within : at + m ≤ n
      below : (i : ℕ) → i < at → t i ≡ true
      above : (i : ℕ) → at + m ≤ i → i < n → t i ≡ false

    fails : (i j : ℕ) → i ≤ j → j < n → t i ≡ false → t j ≡ false
    fails i j h k e = go (t j) refl
      where
        go : (b : Bool) → t j ≡ b → b ≡ false
        go false x = refl
        go true x = sym (falls i j h k x) ∙ e

    few-all : (at m : ℕ) → ((i : ℕ) → i < at + m → t i ≡ true) → of_few t at m ≡ m
    unfolding of_few
    few-all at zero a = refl
    few-all at (suc m) a = omega (arith, few-all at m (λ i h. a i (omega arith)), one_true (t (at + m)) (a (at + m) (omega arith)))

    few_parts : (at m : ℕ) → Between at m → Parts (at + of_few t at m)
    unfolding of_few
    few_parts at zero b =
        record { within = omega (arith, b.within); below = λ i h. b.below i (omega arith); above = λ i h k. b.above i (omega arith) k }
    few_parts at (suc m) b = go (t (at + m)) refl (few_parts at m)
      where
        go : (v : Bool) → t (at + m) ≡ v → (Between at m → Parts (at + of_few t at m)) → Parts (at + (of_few t at m + one (t (at + m))))
        go true x ih =
            let w = b.within in
            let all : (i : ℕ) → i < at + suc m → t i ≡ true = λ i h. falls i (at + m) (omega arith) (omega arith) x in
            let e : at + (of_few t at m + one (t (at + m))) ≡ at + suc m =
            omega (arith, few-all at m (λ i h. all i (omega arith)), one_true (t (at + m)) x)
            in
            rw e (record { within = w; below = all; above = b.above })
        go false x ih =
            let w = b.within in
            let e : at + (of_few t at m + one (t (at + m))) ≡ at + of_few t at m = omega (arith, one_false (t (at + m)) x) in
            rw e (ih (record { within = omega arith; below = b.below; above = λ i h k. fails (at + m) i h k x }))

    -- three tests leave at most the quarter that they say
    module _ (at d m : ℕ) (b : Between at m) (h : 4 * d ≤ m) (k : 1 ≤ d) where
      from : (c : ℕ) → of_three t at d ≡ c → Between (at + c * d) (m - 3 * d) → Between (at + of_three t at d * d) (m - 3 * d)
      from c e x = rw e x

      three-between : Between (at + of_three t at d * d) (m - 3 * d)
      three-between = third (t (at + 3 * d)) refl
        where
          w : at + m ≤ n
          w = b.within

          first : t (at + 2 * d) ≡ false → (v : Bool) → t (at + d) ≡ v → Between (at + of_three t at d * d) (m - 3 * d)
          first y true x =
              from 1 (omega (arith, one_true (t (at + d)) x, one_false (t (at + 2 * d)) y, one_false (t (at + 3 * d)) (fails (at + 2 * d) (at + 3 * d) (omega arith) (omega arith) y)))
              (record { within = omega arith; below = λ i l. falls i (at + d) (omega arith) (omega arith) x; above = λ i l o. fails (at + 2 * d) i (omega arith) o y })
          first y false x =
              from 0 (omega (arith, one_false (t (at + d)) x, one_false (t (at + 2 * d)) y, one_false (t (at + 3 * d)) (fails (at + 2 * d) (at + 3 * d) (omega arith) (omega arith) y)))
              (record { within = omega arith; below = λ i l. b.below i (omega arith); above = λ i l o. fails (at + d) i (omega arith) o x })

          second : t (at + 3 * d) ≡ false → (v : Bool) → t (at + 2 * d) ≡ v → Between (at + of_three t at d * d) (m - 3 * d)
          second z true y =
              from 2 (omega (arith, one_true (t (at + d)) (falls (at + d) (at + 2 * d) (omega arith) (omega arith) y), one_true (t (at + 2 * d)) y, one_false (t (at + 3 * d)) z))
              (record { within = omega arith; below = λ i l. falls i (at + 2 * d) (omega arith) (omega arith) y; above = λ i l o. fails (at + 3 * d) i (omega arith) o z })
          second z false y = first y (t (at + d)) refl

          third : (v : Bool) → t (at + 3 * d) ≡ v → Between (at + of_three t at d * d) (m - 3 * d)
          third true z =
              from 3 (omega (arith, one_true (t (at + d)) (falls (at + d) (at + 3 * d) (omega arith) (omega arith) z), one_true (t (at + 2 * d)) (falls (at + 2 * d) (at + 3 * d) (omega arith) (omega arith) z), one_true (t (at + 3 * d)) z))
              (record { within = omega arith; below = λ i l. falls i (at + 3 * d) (omega arith) (omega arith) z; above = λ i l o. b.above i (omega arith) o })
          third false z = second z (t (at + 2 * d)) refl

    narrow_parts : (f at m : ℕ) → Between at m → Parts (narrow t f at m)
    unfolding narrow
    narrow_parts zero at m b = few_parts at m b
    narrow_parts (suc f) at m b =
        by_cases (dec_lt m 4) (λ l. rw (narrow-few (suc f) at m l) (few_parts at m b))
        (λ l. rw (narrow_turn f at m (omega arith)) (narrow_parts f (at + of_three t at (m / 4) * (m / 4)) (m - 3 * (m / 4)) (three-between at (m / 4) m b (omega arith) (omega arith))))

    pub narrowed : (f : ℕ) → Parts (narrow t f 0 n)
    narrowed f = narrow_parts f 0 n (record { within = omega arith; below = λ i h. absurd (omega arith); above = λ i h k. absurd (omega arith) })
