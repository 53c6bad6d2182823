-- What a pack that was written holds, by the table: its raw fields, and 0 in the bits of no field. Assumes nothing.
use Prim.Native.Nat.{ℕ, suc, ◌+◌, ◌≤◌, ◌<◌}
use mathlib.Core.Path.{◌≡◌, refl, ap, ◌∙◌}
use mathlib.Core.List.{List, [], ◌∷◌}
use mathlib.Core.Bool.{Bool, true, false, ◌&&◌}
use native.Mathlib.Nat.{mod-eq_of_lt}
use native.Mathlib.Omega.{arith}
use borrow.Author.Tests.{leb-true, le-leb, lt-leb}
use lib.Dec.{leb}
use lib.ListN.{length, get_or, set}
use lib.Seq.{sets}
use Rattle.parts.specs.Number.{four_at}
use Rattle.parts.proofs.Parts.{number_part}
use Rattle.written_numbers.specs.Number.{bytes_of}
use Rattle.written_numbers.proofs.Stores.{Stands, stands_right, stored}
use Rattle.written_numbers.proofs.Written.{bytes-length, stands_number}
use Rattle.canon_groups.specs.Fields.{table, fields_of}
use Rattle.canon_groups.proofs.Table.{Each, end, ◌⇒◌⨾◌, each}
use Rattle.canon_packs.specs.Camera.{raws_at}
use Rattle.written_lengths.proofs.Both.{left, right}
use Rattle.written_packs.specs.Packs.{fitting, sum_of, good_pack, pack_bytes}
use Rattle.written_packs.specs.Back.{PackBack, PacksBack}
use Rattle.written_packs.proofs.Sums.{apart, sum_below, fields_back, others_zero}

-- in every pack the fields stand apart
abbrev Apart : ℕ → Type 0
Apart id = apart 32 (fields_of id) ≡ true

all_apart : Each Apart 1 20
unfolding apart table
all_apart = 1 ⇒ refl ⨾ 2 ⇒ refl ⨾ 3 ⇒ refl ⨾ 4 ⇒ refl ⨾ 5 ⇒ refl ⨾ 6 ⇒ refl ⨾ 7 ⇒ refl ⨾ 8 ⇒ refl ⨾ 9 ⇒ refl ⨾ 10 ⇒ refl ⨾ 11 ⇒ refl ⨾ 12 ⇒ refl ⨾ 13 ⇒ refl ⨾ 14 ⇒ refl ⨾ 15 ⇒ refl ⨾ 16 ⇒ refl ⨾ 17 ⇒ refl ⨾ 18 ⇒ refl ⨾ 19 ⇒ refl ⨾ 20 ⇒ refl ⨾ end

pub table-apart : (id : ℕ) → 1 ≤ id → id ≤ 20 → Apart id
table-apart id l h = each Apart 20 1 all_apart id l (omega arith)

-- A pack of good fields
pub record Good (id : ℕ) (fs : List ℕ) : Type 0 where
  pub least : 1 ≤ id
  pub most : id ≤ 20
  pub fits : fitting (fields_of id) fs ≡ true

pub good_is : (id : ℕ) (fs : List ℕ) → good_pack id fs ≡ true → Good id fs
unfolding good_pack
good_is id fs g =
    let r = right (leb 1 id) (leb id 20 && fitting (fields_of id) fs) g in
    record {
      least = leb-true 1 id (left (leb 1 id) (leb id 20 && fitting (fields_of id) fs) g);
      most = leb-true id 20 (left (leb id 20) (fitting (fields_of id) fs) r);
      fits = right (leb id 20) (fitting (fields_of id) fs) r;
    }

module _ (id : ℕ) (fs : List ℕ) where
  pub good_low : id < 1 → good_pack id fs ≡ false
  unfolding good_pack
  good_low h = rw (lt-leb 1 id h)

  pub good_high : 20 < id → good_pack id fs ≡ false
  unfolding good_pack
  good_high h = rw (le-leb 1 id (omega arith), lt-leb id 20 h)

  module _ (l : 1 ≤ id) (h : id ≤ 20) where
    pub good_by : (b : Bool) → fitting (fields_of id) fs ≡ b → good_pack id fs ≡ b
    unfolding good_pack
    good_by b e = rw (le-leb 1 id l, le-leb id 20 h) e

pub pack-length : (id : ℕ) (fs : List ℕ) → length (pack_bytes id fs) ≡ 5
unfolding pack_bytes
pack-length id fs = ap suc (bytes-length 4 (sum_of (fields_of id) fs))

pub pack-put : (id : ℕ) (fs o : List ℕ) (at v : ℕ) → v ≡ sum_of (fields_of id) fs → sets (set o at id) (at + 1) (bytes_of 4 v) ≡ sets o at (pack_bytes id fs)
unfolding pack_bytes
pack-put id fs o at v e = let z : at + 1 ≡ suc at = omega arith in rw (e, z)

-- where a pack's bytes stand
module _ (t : List ℕ) (at id : ℕ) (fs : List ℕ) (g : Good id fs) (w : Stands (pack_bytes id fs) t at) where
  id-at : get_or t at 0 ≡ id
  unfolding pack_bytes
  id-at = let z : at + 0 ≡ at = omega arith in rw z at (w.equal 0 (omega (arith, pack-length id fs)))

  number-at : four_at t (at + 1) ≡ sum_of (fields_of id) fs
  unfolding pack_bytes four_at
  number-at =
      number_part t (at + 1) 4 (omega (arith, w.there, pack-length id fs))
      ∙ stands_number t (at + 1) 4 (sum_of (fields_of id) fs) (stands_right (id ∷ []) (bytes_of 4 (sum_of (fields_of id) fs)) w)
      ∙ mod-eq_of_lt (sum_below 32 (fields_of id) fs (table-apart id g.least g.most) g.fits)

  pub pack_back : PackBack t at id fs
  unfolding raws_at
  pack_back =
      record {
        id-is = id-at;
        raws = rw (id-at, number-at) (fields_back 32 (fields_of id) fs (table-apart id g.least g.most) g.fits);
        others = λ k u e. rw number-at (others_zero k u 32 (fields_of id) fs (table-apart id g.least g.most) g.fits e);
      }

pub packs_back : PacksBack
packs_back o at id fs e h =
    pack_back (sets o at (pack_bytes id fs)) at id fs (good_is id fs e) (stored (pack_bytes id fs) o at (omega (arith, pack-length id fs)))
