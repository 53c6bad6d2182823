-- A value as a host's two arrays have it, its kind in one and its 64 bits in the other: include/brinethimble.h, BRINE_KIND_*.
use Rattle.std.specs.Prelude.{ℕ, Bool, List, map, ◌++◌, ℤ, Float, take, replicate}
use Rattle.std.specs.Float.{binary32, binary64}
use Rattle.std.specs.Float.Ieee.{to_bits}
use Rattle.host_numbers.specs.Numbers.{twos, mark}
use Rattle.host_slots.specs.declared.Slot.{Slot}

-- a kind and its bits, which are 0 for what is told by its kind
abbrev pub slot : ℕ → ℕ → Slot
slot k b = record { kind = k; bits = b }

abbrev pub nothing : Slot
nothing = slot 0 0

-- what a table of names is asked for
abbrev pub code : ℕ → Slot
code n = slot 1 n

abbrev pub whole : ℕ → Slot
whole n = slot 2 n

-- in two's complement
abbrev pub signed : ℤ → Slot
signed n = slot 3 (twos n)

abbrev pub single : Float → Slot
single x = slot 4 (to_bits binary32 x)

abbrev pub double : Float → Slot
double x = slot 5 (to_bits binary64 x)

abbrev pub flag : Bool → Slot
flag b = slot 6 (mark b)

abbrev pub infinity : Slot
infinity = slot 7 0

-- a T-stop's number on the linear scale
abbrev pub linear : ℕ → Slot
linear n = slot 8 n

abbrev pub off : Slot
off = slot 9 0

abbrev pub close : Slot
close = slot 10 0

abbrev pub others : Slot
others = slot 11 0

abbrev pub auto : Slot
auto = slot 12 0

abbrev pub manual : Slot
manual = slot 13 0

abbrev pub reserved : Slot
reserved = slot 14 0

-- 32 places: the values in their order, and nothing behind them
abbrev pub places : List Slot → List Slot
places values = take 32 (values ++ replicate 32 nothing)

-- what the two arrays hold of them
abbrev pub kinds : List Slot → List ℕ
kinds = map (λ (s : Slot). s.kind)

abbrev pub patterns : List Slot → List ℕ
patterns = map (λ (s : Slot). s.bits)
