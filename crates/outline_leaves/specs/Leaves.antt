-- What an outline does not tell: docs/RULES.md, "L4. An outline". To be read before an outline is mailed.
use Rattle.std.specs.Prelude.{ℕ, ◌-◌, ◌<◌, ◌≡◌, List, Bool, false, ◌&&◌, ◌||◌, length, get_or, ltb, leb}
use Rattle.klv.specs.Item.{Item, past}
use Rattle.outline_text.specs.Tree.{Outline, rest, leaf, opened}
use Rattle.outline_text.specs.Outline.{outline_of}
use Rattle.outline_text.specs.Text.{outline_text}
use Rattle.outline_text.specs.Said.{outline_said, outline_into}

-- byte q lies in an item's value
unfoldable pub in_value : Item → ℕ → Bool
in_value i q = leb i.klv.value q && ltb q (past i.klv)

-- byte q lies in the value of a leaf; inside an opened value bytes are counted from its start
unfoldable pub is_leaf : Outline → ℕ → Bool
is_leaf (rest remain) q = false
is_leaf (leaf i behind) q = in_value i q || is_leaf behind q
is_leaf (opened i inside behind) q = (in_value i q && is_leaf inside (q - i.klv.value)) || is_leaf behind q

-- t is as long as s, and has its bytes wherever s has no leaf value, for an end and a depth
pub record SameButLeaves (s t : List ℕ) (e depth : ℕ) : Type 0 where
  pub as_long : length t ≡ length s
  pub others : (q : ℕ) → q < length s → is_leaf (outline_of s e depth) q ≡ false → get_or t q 0 ≡ get_or s q 0

-- the outlines are equal, so are their texts, and so is all that the call says and leaves, whatever its room
pub record SameOutline (s t : List ℕ) (e depth : ℕ) : Type 0 where
  pub outline : outline_of t e depth ≡ outline_of s e depth
  pub text : outline_text t e depth ≡ outline_text s e depth
  pub says : (room : ℕ) → outline_said t e depth room ≡ outline_said s e depth room
  pub into : (o : List ℕ) → outline_into t e depth o ≡ outline_into s e depth o

-- two files that differ only in bytes that are leaf values in the first have the same outline
abbrev pub LeavesDoNotShow : Type 0
LeavesDoNotShow = (s t : List ℕ) (e depth : ℕ) → SameButLeaves s t e depth → SameOutline s t e depth
