-- Whole numbers that may be negative, as files hold them.
use Rattle.std.specs.Prelude.{ℕ, ◌-◌, ◌^◌, cond, ltb, ℤ, pos, ◌-ℤ◌}

-- w bits read as a signed number (two's complement): with the highest bit set, 2 ^ w less
unfoldable pub signed_bits : ℕ → ℕ → ℤ
signed_bits w n = cond (ltb n (2 ^ (w - 1))) (pos n) (pos n -ℤ pos (2 ^ w))

-- w bits that count from the middle of their range: 80h, or 8000h, is zero
unfoldable pub around : ℕ → ℕ → ℤ
around w n = pos n -ℤ pos (2 ^ (w - 1))
