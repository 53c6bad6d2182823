-- How a flag and a signed number stand among whole numbers: include/brinethimble.h.
use Rattle.std.specs.Prelude.{ℕ, suc, ◌-◌, ◌^◌, Bool, cond, ℤ, pos, negsuc}

-- 1 for a flag that is set
unfoldable pub mark : Bool → ℕ
mark b = cond b 1 0

-- a signed number in two's complement of 64 bits: one below 0 is 2 ^ 64 more
unfoldable pub twos : ℤ → ℕ
twos (pos n) = n
twos (negsuc n) = 2 ^ 64 - suc n
