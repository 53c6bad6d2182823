-- The law of rounding where the fraction is M * 2 ^ g / 2 ^ h, as each conversion has it: in units of the format's smallest value M has g and `low` zeros behind it
-- and h digits cut off, so where k of these digits are dropped, what is kept is M with b zeros behind it and d digits dropped, for any b and d that come
-- to the same. Assumes nothing.
use Rattle.std.proofs.Common.{◌≡◌, ℕ, suc, ◌+◌, ◌*◌, ◌^◌, ◌<◌, ◌≤◌, Bool, cond, ◌⊎◌, sym, refl, ap, ◌∙◌, subst, inl, inr, le_trans, le_of_eq, lt_of_lt_of_le, lt_of_le_of_lt, mul-le-mul_right, mul_assoc, mul-lt-mul_of_pos_right, mul-pos, arith, pow_pos, pow_mono, pow-add}
use lib.Ieee.{Format, prec, low, hid, top, round, of_bits}
use lib.Ieee.Exact.{HasValue}
use lib.Ieee.Nearest.{closest, closest_same}
use lib.Ieee.Scale.{overflow}
use Rattle.floats.specs.Rounding.{packed_bits}
use Rattle.floats.proofs.Round.{widths, round_bits, round_value}

times : (m a b c : ℕ) → a + b ≡ c → m * 2 ^ a * 2 ^ b ≡ m * 2 ^ c
times m a b c e = mul_assoc m (2 ^ a) (2 ^ b) ∙ ap (λ (x : ℕ). m * x) (sym (pow-add 2 a b) ∙ ap (λ (x : ℕ). 2 ^ x) e)

-- M has at most suc j digits, and where any is dropped it has suc j of them, of which the format's are left
module _ (f : Format) (s : Bool) (M g h j k : ℕ) (hi : M < 2 ^ suc j) (few : suc j + g + low f ≤ prec f + k + h)
    (lo : (k ≡ 0) ⊎ ((2 ^ j ≤ M) × (prec f + k + h ≤ suc j + g + low f))) where
  in-units : M * 2 ^ g * 2 ^ low f ≡ M * 2 ^ (g + low f)
  in-units = times M g (low f) (g + low f) refl

  high : M * 2 ^ g * 2 ^ low f < 2 ^ (prec f + k) * 2 ^ h
  high =
      lt_of_le_of_lt (le_of_eq in-units)
      (lt_of_lt_of_le (mul-lt-mul_of_pos_right hi (pow_pos (g + low f)))
      (le_trans (le_of_eq (sym (pow-add 2 (suc j) (g + low f))))
      (le_trans (pow_mono {i = suc j + (g + low f)} {j = prec f + k + h} (omega arith)) (le_of_eq (pow-add 2 (prec f + k) h)))))

  low_end : (k ≡ 0) ⊎ (hid f * 2 ^ k * 2 ^ h ≤ M * 2 ^ g * 2 ^ low f)
  low_end = go lo
    where
      go : (k ≡ 0) ⊎ ((2 ^ j ≤ M) × (prec f + k + h ≤ suc j + g + low f)) → (k ≡ 0) ⊎ (hid f * 2 ^ k * 2 ^ h ≤ M * 2 ^ g * 2 ^ low f)
      go (inl e) = inl e
      go (inr l) =
          let p = (widths f).p in
          let e : hid f * 2 ^ k * 2 ^ h ≡ 2 ^ (p + (k + h)) = times (hid f) k h (k + h) refl ∙ ap (λ (x : ℕ). x * 2 ^ (k + h)) (widths f).weight ∙ sym (pow-add 2 p (k + h)) in
          inr (le_trans (le_of_eq e)
          (le_trans (pow_mono {i = p + (k + h)} {j = j + (g + low f)} (omega (arith, l.1, (widths f).digits)))
          (le_trans (le_of_eq (pow-add 2 j (g + low f))) (le_trans (mul-le-mul_right (2 ^ (g + low f)) l.0) (le_of_eq (sym in-units))))))

  module _ (b d : ℕ) (e : g + low f + d ≡ b + h + k) where
    same_kept : closest (M * 2 ^ g * 2 ^ low f) (2 ^ h * 2 ^ k) ≡ closest (M * 2 ^ b) (2 ^ d)
    same_kept =
        closest_same (M * 2 ^ g * 2 ^ low f) (2 ^ h * 2 ^ k) (M * 2 ^ b) (2 ^ d) (mul-pos (pow_pos h) (pow_pos k)) (pow_pos d)
        (ap (λ (x : ℕ). x * 2 ^ d) in-units ∙ times M (g + low f) d (b + (h + k)) (omega arith) ∙ sym (times M b (h + k) (b + (h + k)) refl) ∙ ap (λ (x : ℕ). M * 2 ^ b * x) (pow-add 2 h k))

    pub dyadic_bits : round f s (M * 2 ^ g) (2 ^ h) ≡ of_bits f (cond s (top f) 0 + packed_bits f k (closest (M * 2 ^ b) (2 ^ d)))
    dyadic_bits = round_bits f s (M * 2 ^ g) (2 ^ h) k (pow_pos h) high low_end ∙ ap (λ (q : ℕ). of_bits f (cond s (top f) 0 + packed_bits f k q)) same_kept

    pub dyadic_value : closest (M * 2 ^ b) (2 ^ d) * 2 ^ k < overflow f → HasValue (round f s (M * 2 ^ g) (2 ^ h)) s (closest (M * 2 ^ b) (2 ^ d) * 2 ^ k) (2 ^ low f)
    dyadic_value l =
        subst (λ (q : ℕ). HasValue (round f s (M * 2 ^ g) (2 ^ h)) s (q * 2 ^ k) (2 ^ low f)) same_kept
        (round_value f s (M * 2 ^ g) (2 ^ h) k (pow_pos h) high low_end (subst (λ (q : ℕ). q * 2 ^ k < overflow f) (sym same_kept) l))
