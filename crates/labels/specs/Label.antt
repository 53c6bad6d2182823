-- Labels: docs/RULES.md, "Lengths and labels".
use Rattle.std.specs.Prelude.{ℕ, zero, suc, ◌+◌, List, [], ◌∷◌, Bool, true, false, cond, ◌&&◌, ◌||◌, length, get_or, take, drop, leb, eqb}

-- the first list is a beginning of the second
unfoldable pub beginning : List ℕ → List ℕ → Bool
beginning [] k = true
beginning (x ∷ l) [] = false
beginning (x ∷ l) (y ∷ k) = eqb x y && beginning l k

-- the first n bytes agree, but for those at x, y and z
unfoldable pub first_agree : ℕ → ℕ → ℕ → List ℕ → List ℕ → ℕ → Bool
first_agree x y z a b zero = true
first_agree x y z a b (suc n) =
    first_agree x y z a b n && ((eqb n x || (eqb n y || eqb n z)) || eqb (get_or a n 0) (get_or b n 0))

-- both have 16 bytes, and agree in all but those at x, y and z
unfoldable pub agree_but : ℕ → ℕ → ℕ → List ℕ → List ℕ → Bool
agree_but x y z a b = eqb (length a) 16 && (eqb (length b) 16 && first_agree x y z a b 16)

-- two labels are the same when both have 16 bytes and agree in all but the byte at 7
abbrev pub same_label : List ℕ → List ℕ → Bool
same_label a b = agree_but 7 7 7 a b

-- a set's label, whose byte 5 says how its items are coded: docs/RULES.md, "L3. The tally's groups"
unfoldable pub codes_items : List ℕ → Bool
codes_items l = eqb (get_or l 4 0) 0x02 && (eqb (get_or l 5 0) 0x13 || (eqb (get_or l 5 0) 0x43 || eqb (get_or l 5 0) 0x53))

-- the label at a place, cut to the buffer
abbrev pub label_at : List ℕ → ℕ → List ℕ
label_at s at = take 16 (drop at s)

-- what every key starts with
abbrev pub key_start : List ℕ
key_start = 0x06 ∷ 0x0e ∷ 0x2b ∷ 0x34 ∷ []

-- 06 0e 2b 34 stand at q
unfoldable pub key_at : List ℕ → ℕ → Bool
key_at s q =
    eqb (get_or s q 0) 0x06 && (eqb (get_or s (q + 1) 0) 0x0e && (eqb (get_or s (q + 2) 0) 0x2b && eqb (get_or s (q + 3) 0) 0x34))

-- PARTITION_PREFIX
abbrev pub partition_prefix : List ℕ
partition_prefix = 0x06 ∷ 0x0e ∷ 0x2b ∷ 0x34 ∷ 0x02 ∷ 0x05 ∷ 0x01 ∷ 0x01 ∷ 0x0d ∷ 0x01 ∷ 0x02 ∷ 0x01 ∷ 0x01 ∷ []

-- the kind of the partition pack whose label stands at a place: the byte behind the 13 prefix bytes, all 14 inside the buffer;
-- else 0, which is no pack's
unfoldable pub partition_kind : List ℕ → ℕ → ℕ
partition_kind s at = cond (leb (at + 14) (length s) && beginning partition_prefix (drop at s)) (get_or s (at + 13) 0) 0

-- RANDOM_INDEX
abbrev pub random_index : List ℕ
random_index = 0x06 ∷ 0x0e ∷ 0x2b ∷ 0x34 ∷ 0x02 ∷ 0x05 ∷ 0x01 ∷ 0x01 ∷ 0x0d ∷ 0x01 ∷ 0x02 ∷ 0x01 ∷ 0x01 ∷ 0x11 ∷ 0x01 ∷ 0x00 ∷ []
