-- Packs that are written and read: docs/RULES.md, "L8. Writers".
use Rattle.std.specs.Prelude.{ℕ, ◌+◌, ◌≤◌, ◌≡◌, List, [], ◌∷◌, ◌++◌, Bool, true, ◌&&◌, ◌||◌, leb, length, get_or}
use Rattle.std.proofs.lemmas.List.Edits.{sets}
use Rattle.parts.specs.Number.{four_at}
use Rattle.canon_groups.specs.Fields.{fields_of, bits}
use Rattle.canon_packs.specs.declared.Camera.{Camera}
use Rattle.canon_packs.specs.Camera.{camera_after, unknown, raws_at, camera_of}
use Rattle.written_packs.specs.Packs.{good_pack, pack_bytes}

-- the w bits from bit k on lie in none of these fields
unfoldable pub clear : ℕ → ℕ → List (ℕ × ℕ) → Bool
clear k w [] = true
clear k w (p ∷ t) = (leb (k + w) p.0 || leb (p.0 + p.1) k) && clear k w t

-- at a place of t stands a pack of that id with these raw fields, and bits of no field are 0
pub record PackBack (t : List ℕ) (at id : ℕ) (fs : List ℕ) : Type 0 where
  pub id-is : get_or t at 0 ≡ id
  pub raws : raws_at t at ≡ fs
  pub others : (k w : ℕ) → clear k w (fields_of id) ≡ true → bits k w (four_at t (at + 1)) ≡ 0

-- so it is where that pack was written
abbrev pub PacksBack : Type 0
PacksBack =
    (o : List ℕ) (at id : ℕ) (fs : List ℕ) → good_pack id fs ≡ true → at + 5 ≤ length o
    → PackBack (sets o at (pack_bytes id fs)) at id fs

-- packs to be written behind a count
pub record Given : Type 0 where
  pub id : ℕ
  pub fields : List ℕ

unfoldable pub good_packs : List Given → Bool
good_packs [] = true
good_packs (g ∷ more) = good_pack g.id g.fields && good_packs more

unfoldable pub packs_bytes : List Given → List ℕ
packs_bytes [] = []
packs_bytes (g ∷ more) = pack_bytes g.id g.fields ++ packs_bytes more

-- what the reader answers for their raw fields, one after the other
unfoldable pub after_all : Camera → List Given → Camera
after_all c [] = c
after_all c (g ∷ more) = after_all (camera_after g.id g.fields c) more

-- a Private Camera Metadata of at most 255 packs reads as their raw fields do
abbrev pub CamerasBack : Type 0
CamerasBack = (l : List Given) → good_packs l ≡ true → length l ≤ 255 → camera_of (length l ∷ packs_bytes l) ≡ after_all unknown l
