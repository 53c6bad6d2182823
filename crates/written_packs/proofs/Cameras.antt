-- A Private Camera Metadata of packs that were written reads as their raw fields do. Assumes nothing.
use Prim.Native.Nat.{ℕ, suc, ◌+◌, ◌-◌, ◌*◌, ◌/◌, min}
use mathlib.Core.Path.{◌≡◌, refl, sym, ap, ◌∙◌}
use mathlib.Core.List.{List, [], ◌∷◌}
use mathlib.Core.Bool.{true}
use native.Mathlib.Omega.{arith}
use lib.ListN.{length, get_or, length-append}
use Rattle.written_numbers.proofs.Stores.{Stands, stands_left, stands_right}
use Rattle.canon_packs.specs.declared.Camera.{Camera}
use Rattle.canon_packs.specs.Camera.{camera_after, after_packs, camera_of}
use Rattle.written_lengths.proofs.Both.{left, right}
use Rattle.written_packs.specs.Packs.{good_pack, pack_bytes}
use Rattle.written_packs.specs.Back.{PackBack, Given, good_packs, packs_bytes, after_all, CamerasBack}
use Rattle.written_packs.proofs.Packs.{good_is, pack-length, pack_back}

packs_length : (l : List Given) → length (packs_bytes l) ≡ 5 * length l
unfolding packs_bytes
packs_length [] = refl
packs_length (g ∷ l) = length-append (pack_bytes g.id g.fields) (packs_bytes l) ∙ rw (pack-length, packs_length l) (omega arith)

pack_read : (t : List ℕ) (n id : ℕ) (fs : List ℕ) → PackBack t (1 + 5 * n) id fs → camera_after id fs (after_packs t n) ≡ after_packs t (suc n)
unfolding after_packs
pack_read t n id fs w = sym (rw (w.id-is, w.raws))

-- the packs from the n-th on stand behind the first n: those read so far, and these, are all
all_from : (t : List ℕ) (n : ℕ) (l : List Given) → good_packs l ≡ true → Stands (packs_bytes l) t (1 + 5 * n)
    → after_all (after_packs t n) l ≡ after_packs t (n + length l)
unfolding good_packs packs_bytes after_all
all_from t n [] e w = let z : n + 0 ≡ n = omega arith in rw z
all_from t n (g ∷ l) e w =
    let b : List ℕ = pack_bytes g.id g.fields in
    let here = good_is g.id g.fields (left (good_pack g.id g.fields) (good_packs l) e) in
    let one = pack_back t (1 + 5 * n) g.id g.fields here (stands_left b (packs_bytes l) w) in
    let place : 1 + 5 * n + length b ≡ 1 + 5 * suc n = omega (arith, pack-length g.id g.fields) in
    let next = rw place at (stands_right b (packs_bytes l) w) in
    let z : n + suc (length l) ≡ suc n + length l = omega arith in
    ap (λ (c : Camera). after_all c l) (pack_read t n g.id g.fields one)
    ∙ all_from t (suc n) l (right (good_pack g.id g.fields) (good_packs l) e) next
    ∙ sym (ap (after_packs t) z)

pub cameras_back : CamerasBack
unfolding camera_of after_packs
cameras_back l e h =
    let t : List ℕ = length l ∷ packs_bytes l in
    let w : Stands (packs_bytes l) t (1 + 5 * 0) =
    record { there = omega arith; equal = λ i k. let z : 1 + 5 * 0 + i ≡ suc i = omega arith in ap (λ (j : ℕ). get_or t j 0) z } in
    let n : min (length l) ((length t - 1) / 5) ≡ 0 + length l = omega (arith, packs_length l) in
    ap (after_packs t) n ∙ sym (all_from t 0 l e w)
