-- A KLV that was written, its key a key's start, is what the walks find there, and the strict gate too. Assumes nothing.
use Rattle.std.specs.Prelude.{Ok}
use Prim.Native.Nat.{ℕ, zero, suc, ◌+◌, ◌≤◌, ◌<◌}
use mathlib.Core.Path.{◌≡◌, ap}
use mathlib.Core.List.{List, [], ◌∷◌, ◌++◌}
use mathlib.Core.Bool.{true, ◌&&◌}
use native.Mathlib.Omega.{arith}
use borrow.Author.Tests.{eqb-true}
use lib.Dec.{eqb, lit<}
use lib.ListN.{length, get_or, length-append}
use lib.Seq.{sets}
use Rattle.written_numbers.proofs.Stores.{Stands, stands_left, stands_right, stored}
use Rattle.labels.specs.Label.{key_at}
use Rattle.lengths.specs.Length.{bound_of, length_at}
use Rattle.klv.specs.Item.{klv}
use Rattle.walk.specs.declared.Turn.TheVariants.{Record}
use Rattle.walk.specs.Rules.{rules}
use Rattle.walk.proofs.Laws.{rule_record}
use Rattle.walk.proofs.Walking.{walk_record}
use Rattle.walk.proofs.Answers.{finished-found, arriving-found}
use Rattle.strict_files.specs.Files.{RecordAt, Follow, none, more}
use Rattle.strict_files.proofs.Files.{strict_files}
use Rattle.written_lengths.specs.Form.{form_of, holds, told}
use Rattle.written_lengths.proofs.Both.{left, right}
use Rattle.written_lengths.proofs.Sizes.{bound_zero, bound_one, bound_least, holds-is}
use Rattle.written_lengths.proofs.Forms.{read_form}
use Rattle.written_klvs.specs.Klvs.{klv_bytes}
use Rattle.written_klvs.proofs.Runs.{klv-sixteen}
use Rattle.written_walks.specs.Walks.{Given, good_given, given_bytes, WalkBack, WalksBack, good_file, file_bytes, GoodFiles}

-- what is known of a good one
record Good (g : Given) : Type 0 where
  sixteen : length g.key ≡ 16
  key : key_at g.key 0 ≡ true
  few : g.size ≤ 9
  below : length g.value < bound_of g.size

good_is : (g : Given) → good_given g ≡ true → Good g
unfolding good_given
good_is g e =
    let r = right (eqb (length g.key) 16) (key_at g.key 0 && holds g.size (length g.value)) e in
    let h = holds-is g.size (length g.value) (right (key_at g.key 0) (holds g.size (length g.value)) r) in
    record {
      sixteen = eqb-true (length g.key) 16 (left (eqb (length g.key) 16) (key_at g.key 0 && holds g.size (length g.value)) e);
      key = left (key_at g.key 0) (holds g.size (length g.value)) r;
      few = h.0;
      below = h.1;
    }

-- a key's start that stands at a place is one there
key-there : (t : List ℕ) (p : ℕ) (key : List ℕ) → length key ≡ 16 → key_at key 0 ≡ true → Stands key t p → key_at t p ≡ true
unfolding key_at
key-there t p key n k w =
    let z : p + 0 ≡ p = omega arith in
    rw (rw z at (w.equal 0 (omega arith)), w.equal 1 (omega arith), w.equal 2 (omega arith), w.equal 3 (omega arith)) k

-- 80h begins no form
not_eighty : (t : List ℕ) (at size v : ℕ) → v < bound_of size → Stands (form_of size v) t at → get_or t at 0 ≡ 0x80 → ⊥
unfolding form_of
not_eighty t at zero v k w e = absurd (omega (arith, bound_zero))
not_eighty t at (suc zero) v k w e =
    let z : at + 0 ≡ at = omega arith in
    let b : get_or t at 0 ≡ v = rw z at (w.equal 0 (lit< tt)) in
    omega (arith, bound_one)
not_eighty t at (suc (suc n)) v k w e =
    let z : at + 0 ≡ at = omega arith in
    let b : get_or t at 0 ≡ 0x80 + suc n = rw z at (w.equal 0 (omega arith)) in
    omega arith

module _ (t : List ℕ) (at : ℕ) (g : Given) (good : Good g) (w : Stands (given_bytes g) t at) where
  abbrev n : ℕ
  n = length g.value

  form : Stands (form_of g.size n) t (at + 16)
  unfolding klv_bytes
  form = stands_left (form_of g.size n) g.value (rw good.sixteen at (stands_right g.key (form_of g.size n ++ g.value) w))

  key : key_at t at ≡ true
  unfolding klv_bytes
  key = key-there t at g.key good.sixteen good.key (stands_left g.key (form_of g.size n ++ g.value) w)

  reads : length_at t (at + 16) ≡ Ok (told g.size n)
  reads = read_form t (at + 16) g.size n good.few good.below form

  long : length (given_bytes g) ≡ 16 + g.size + n
  long = klv-sixteen g.key g.size g.value good.sixteen

  rules_back : (limit e : ℕ) → at + length (given_bytes g) ≤ e → rules limit t e at ≡ Record (klv 16 at (told g.size n))
  rules_back limit e m =
      let l = bound_least g.size n good.below in
      rule_record limit t e at (omega (arith, long)) key (told g.size n) reads (omega (arith, long))

  walk_back : WalkBack t at g
  walk_back =
      record {
        finished = λ e b m. finished-found t e at b (klv 16 at (told g.size n)) (walk_record 0 t e at (klv 16 at (told g.size n)) (rules_back 0 e m));
        arriving = λ limit b.
            arriving-found limit t at b (klv 16 at (told g.size n))
            (walk_record limit t (length t) at (klv 16 at (told g.size n)) (rules_back limit (length t) w.there));
      }

  record_back : (e : ℕ) → at + length (given_bytes g) ≤ e → RecordAt t e at (at + length (given_bytes g))
  record_back e m =
      record {
        key = key;
        field = told g.size n;
        long = reads;
        plain = not_eighty t (at + 16) g.size n good.below form;
        ends = omega (arith, long);
        within = m;
      }

pub walks_back : WalksBack
walks_back o at g e h = walk_back (sets o at (given_bytes g)) at g (good_is g e) (stored (given_bytes g) o at h)

-- a file of them, of which what is left stands at p and ends t
follow : (t : List ℕ) (p : ℕ) (l : List Given) → good_file l ≡ true → Stands (file_bytes l) t p → p + length (file_bytes l) ≡ length t → Follow t (length t) p (length t)
unfolding good_file file_bytes
follow t p [] e w h = let z : p ≡ length t = omega arith in rw z none
follow t p (g ∷ l) e w h =
    let a = length-append (given_bytes g) (file_bytes l) in
    let here = good_is g (left (good_given g) (good_file l) e) in
    more (record_back t p g here (stands_left (given_bytes g) (file_bytes l) w) (length t) (omega arith))
    (follow t (p + length (given_bytes g)) l (right (good_given g) (good_file l) e) (stands_right (given_bytes g) (file_bytes l) w) (omega arith))

pub good_files : GoodFiles
good_files l e =
    (strict_files (file_bytes l) (length (file_bytes l))).accepted.1
    (omega arith, follow (file_bytes l) 0 l e (record { there = omega arith; equal = λ i h. ap (λ (k : ℕ). get_or (file_bytes l) k 0) (omega arith) }) (omega arith))
