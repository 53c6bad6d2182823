-- Laws of `specs/Camera.antt`: what a pack holds, the packs one by one, and no byte at all. Assumes nothing.
use Prim.Native.Nat.{ℕ, ◌+◌, ◌-◌, ◌*◌, ◌/◌, ◌≤◌, ◌<◌, min}
use mathlib.Core.Path.{◌≡◌, sym, ap, ◌∙◌}
use mathlib.Core.List.{List, ◌++◌}
use mathlib.Core.Logic.{by_cases}
use native.Mathlib.Numerals.{add-one}
use native.Mathlib.Decide.{dec_lt}
use native.Mathlib.Omega.{arith}
use lib.ListN.{length, get_or, take, drop, length-append, length-take, length-drop}
use lib.Seq.{take_all, take-append_seam, drop-append_seam, drop-drop}
use Rattle.std.proofs.lemmas.List.{drop-take}
use Rattle.parts.specs.Number.{number_at, two_at, four_at}
use Rattle.parts.specs.Bytes.{Bytes}
use Rattle.parts.proofs.Cut.{part_bytes}
use Rattle.parts.proofs.Parts.{number_part, part_byte, part_length}
use Rattle.canon_groups.specs.Groups.{raws_of}
use Rattle.canon_groups.proofs.Table.{PackOf, in_table}
use Rattle.canon_packs.specs.declared.Camera.{Camera}
use Rattle.canon_packs.specs.Camera.{pack_of, raws_at, camera_after, unknown, after_packs, camera_of}

-- A whole pack's bytes and numbers are bits of the number of its four bytes
module _ (s : List ℕ) (b : Bytes s) (h : 5 ≤ length s) where
  two : (p q : ℕ) → p + 1 ≡ q → p + 2 ≤ length s → two_at s p ≡ get_or s p 0 * 256 + get_or s q 0
  unfolding two_at number_at
  two p q e k = let z : p + 0 ≡ p = omega arith in number_part s p 2 k ∙ rw (z, e) (omega arith)

  four : four_at s 1 ≡ ((get_or s 1 0 * 256 + get_or s 2 0) * 256 + get_or s 3 0) * 256 + get_or s 4 0
  unfolding four_at number_at
  four = number_part s 1 4 (omega arith) ∙ omega arith

  is_pack : PackOf (four_at s 1) (pack_of s)
  unfolding pack_of
  is_pack =
      let n = four in
      let x = b 1 in
      let y = b 2 in
      let z = b 3 in
      let u = b 4 in
      record {
        b0 = omega arith;
        b1 = omega arith;
        b2 = omega arith;
        b3 = omega arith;
        first = two 1 2 (omega arith) (omega arith) ∙ omega arith;
        middle = two 2 3 (omega arith) (omega arith) ∙ omega arith;
        last = two 3 4 (omega arith) (omega arith) ∙ omega arith;
        whole = omega arith;
      }

  raws-here : raws_of (pack_of s) ≡ raws_at s 0
  unfolding raws_at pack_of
  raws-here = in_table (pack_of s) (four_at s 1) is_pack

-- the five bytes of the pack at a place
module _ (s : List ℕ) (b : Bytes s) (at : ℕ) (h : at + 5 ≤ length s) where
  four-part : four_at (take 5 (drop at s)) 1 ≡ four_at s (at + 1)
  unfolding four_at
  four-part = rw (drop-take 1 4 (drop at s), drop-drop 1 at s, take_all 4 (take 4 (drop (at + 1) s)) (simp length-take (omega arith)))

  pub pack-there : (pack_of (take 5 (drop at s))).id ≡ get_or s at 0
  unfolding pack_of
  pack-there = part_byte s at 5 0 (omega arith) ∙ ap (λ (i : ℕ). get_or s i 0) (omega arith)

  pub raws-there : raws_of (pack_of (take 5 (drop at s))) ≡ raws_at s at
  unfolding raws_at pack_of
  raws-there =
      let p = part_length s at 5 h in
      raws-here (take 5 (drop at s)) (part_bytes s at 5 b) (omega arith) ∙ rw (four-part, pack-there)

-- The loop that reads the packs: the camera is what is known after those passed, and the bytes of the others are left
pub record Reading (s : List ℕ) (c : Camera) (rest : List ℕ) (size left : ℕ) : Type 0 where
  pub passed : ℕ
  pub five : size ≡ 5
  pub begun : 1 + 5 * passed ≤ length s
  pub follows : rest ≡ drop (1 + 5 * passed) s
  pub counted : passed + left ≡ get_or s 0 0
  pub known : c ≡ after_packs s passed

module _ (s : List ℕ) where
  pub camera_none : length s ≡ 0 → camera_of s ≡ unknown
  unfolding camera_of after_packs
  camera_none e = let z : min (get_or s 0 0) ((length s - 1) / 5) ≡ 0 = omega arith in rw z

  pub reading_start : (c : Camera) (rest : List ℕ) (size left : ℕ) → 1 ≤ length s → c ≡ unknown → rest ≡ drop 1 s → size ≡ 5 → left ≡ get_or s 0 0
      → Reading s c rest size left
  unfolding after_packs
  reading_start c rest size left h x y z w = record { passed = 0; five = z; begun = h; follows = y; counted = omega arith; known = x }

  module _ (c : Camera) (rest : List ℕ) (size left : ℕ) (r : Reading s c rest size left) where
    pub reading_next : Bytes s → (pack rest₂ : List ℕ) (size₂ left₂ : ℕ) → rest ≡ pack ++ rest₂ → length pack ≡ size → size₂ ≡ size → left₂ + 1 ≡ left
        → Reading s (camera_after (pack_of pack).id (raws_of (pack_of pack)) c) rest₂ size₂ left₂
    unfolding after_packs
    reading_next b pack rest₂ size₂ left₂ e n z w =
        let at : ℕ = 1 + 5 * r.passed in
        let five : length pack ≡ 5 = n ∙ r.five in
        let whole : drop at s ≡ pack ++ rest₂ = sym r.follows ∙ e in
        let room : at + 5 ≤ length s = omega (arith, length-drop at s, ap length whole, length-append pack rest₂) in
        let first : take 5 (drop at s) ≡ pack = rw (whole, ← five) (take-append_seam pack rest₂) in
        let more : drop 5 (drop at s) ≡ rest₂ = rw (whole, ← five) (drop-append_seam pack rest₂) in
        let place : at + 5 ≡ 1 + 5 * (r.passed + 1) = omega arith in
        let id : (pack_of pack).id ≡ get_or s at 0 = rw first at (pack-there s b at room) in
        let raws : raws_of (pack_of pack) ≡ raws_at s at = rw first at (raws-there s b at room) in
        record {
          passed = r.passed + 1;
          five = z ∙ r.five;
          begun = omega arith;
          follows = sym more ∙ drop-drop 5 at s ∙ ap (λ (i : ℕ). drop i s) place;
          counted = omega (arith, r.counted);
          known = rw (raws, id, r.known, add-one);
        }

    pub reading_end : (0 < left → length rest < size) → c ≡ camera_of s
    unfolding camera_of
    reading_end h =
        let rest_length : length rest ≡ length s - (1 + 5 * r.passed) = ap length r.follows ∙ length-drop (1 + 5 * r.passed) s in
        r.known ∙ ap (after_packs s)
        (by_cases (dec_lt 0 left)
        (λ k. omega (arith, h k, rest_length, r.five, r.begun, r.counted))
        (λ k. omega (arith, k, r.begun, r.counted)))
